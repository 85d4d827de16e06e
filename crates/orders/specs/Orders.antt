-- An order of a pot's balls, in sixteen bytes. Assumes nothing.
use Rattle.std.specs.Prelude.{◌≡◌, ℕ, ◌<◌, ◌≤◌, Bool, cond, not, length, ◌&&◌, List, ◌==◌, ◌≢◌, nat_eq, nat_le, nat_lt, slice_index}
use Rattle.orders.specs.Below.{all_below, any_below}

-- the first places, as many as the pot has balls, have each ball once, and 255 stands behind them
pub record OrderOf (balls : ℕ) (order : List ℕ) : Type 0 where
  pub ball : (i : ℕ) → i < balls → slice_index order i < balls
  pub each_ball : (b : ℕ) → b < balls → (i : ℕ) × (i < balls) × (slice_index order i ≡ b)
  pub once : (i j : ℕ) → i < balls → j < i → slice_index order j ≢ slice_index order i
  pub rest : (i : ℕ) → balls ≤ i → i < 16 → slice_index order i ≡ 255

-- one place of it: a ball of the pot that did not come before, or 255 after the last ball
pub record InPlace (balls : ℕ) (order : List ℕ) (i : ℕ) : Type 0 where
  pub ball : i < balls → slice_index order i < balls
  pub once : i < balls → (j : ℕ) → j < i → slice_index order j ≢ slice_index order i
  pub rest : balls ≤ i → slice_index order i ≡ 255

-- what may stand behind the bytes before
pub record Follows (balls : ℕ) (before : List ℕ) (byte : ℕ) : Type 0 where
  pub ball : length before < balls → byte < balls
  pub once : length before < balls → (j : ℕ) → j < length before → slice_index before j ≢ byte
  pub rest : balls ≤ length before → byte ≡ 255

-- The test of it, place by place

-- the byte at place i stands at an earlier place too
abbrev pub stands_before : List ℕ → ℕ → Bool
stands_before o i = any_below (λ j. nat_eq (slice_index o j) (slice_index o i)) i

-- at place i stands a ball of the pot that did not come before, or 255 after the last ball
abbrev pub in_place : ℕ → List ℕ → ℕ → Bool
in_place balls o i = cond (nat_lt i balls) (nat_lt (slice_index o i) balls && not (stands_before o i)) (slice_index o i == 255)

abbrev pub all_in_place : ℕ → List ℕ → Bool
all_in_place balls o = all_below (in_place balls o) 16

-- more than sixteen balls have no order in sixteen bytes
abbrev pub is_order : ℕ → List ℕ → Bool
is_order balls o = nat_le balls 16 && all_in_place balls o
