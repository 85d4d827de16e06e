-- What the tests of each number below another say together.
use Rattle.std.proofs.Common.{◌≡◌, ℕ, ◌<◌, Bool, true, Decides, refl}
use Rattle.std.proofs.lemmas.Bool.Decides.{Decides-below_and, Decides-below_or, same_from_decides}
use Rattle.orders.specs.Below.{all_below, any_below}

module _ (p : ℕ → Bool) (P : ℕ → Type 0) (each : (k : ℕ) → Decides (p k) (P k)) (n : ℕ) where
  pub decides_all : Decides (all_below p n) ((k : ℕ) → k < n → P k)
  unfolding all_below
  decides_all = Decides-below_and p P (all_below p) each refl (λ _. refl) n

  pub decides_any : Decides (any_below p n) ((k : ℕ) × (k < n) × P k)
  unfolding any_below
  decides_any = Decides-below_or p P (any_below p) each refl (λ _. refl) n

-- an answer to each of the tests, or to some of them, is what they say together
module _ (p : ℕ → Bool) (n : ℕ) (r : Bool) where
  pub all_told : Decides r ((k : ℕ) → k < n → p k ≡ true) → r ≡ all_below p n
  all_told h = same_from_decides r (all_below p n) h (decides_all p (λ k. p k ≡ true) (λ k. (λ t. t, λ t. t)) n)

  pub any_told : Decides r ((k : ℕ) × (k < n) × (p k ≡ true)) → r ≡ any_below p n
  any_told h = same_from_decides r (any_below p n) h (decides_any p (λ k. p k ≡ true) (λ k. (λ t. t, λ t. t)) n)
