-- The entries of a table, and what one entry less leaves of them.
use Rattle.std.proofs.Common.{◌≡◌, ℕ, ◌<◌, ◌≤◌, ◌⊎◌, List, length, set, replicate, Some, None, Option, refl, inl, inr, arith}
use Rattle.std.proofs.lemmas.List.{get_or-replicate, get_or_past}
use Rattle.std.proofs.lemmas.Grind.{common_steps}
use Rattle.std.proofs.lemmas.Bool.{cases_lt}
use Rattle.tables.specs.Seats.{seat_of, OnePerPot, Lettered}

pub some_same : (o : Option ℕ) (a b : ℕ) → o ≡ Some a → o ≡ Some b → a ≡ b
some_same o a b p q = cc

pub none_some : (o : Option ℕ) (a : ℕ) → o ≡ None → o ≡ Some a → ⊥
none_some o a p q = cc

pub cases_some : (o : Option ℕ) → (o ≡ None) ⊎ ((k : ℕ) × (o ≡ Some k))
cases_some None = inl refl
cases_some (Some k) = inr (k, refl)

pub seat_past : (s : List (Option ℕ)) (n : ℕ) → length s ≡ 96 → 96 ≤ n → seat_of s n ≡ None
seat_past s n size h = let past : length s ≤ n = omega arith in get_or_past s n None past

-- a number with a group is one of the 96
pub seat_low : (s : List (Option ℕ)) (n g : ℕ) → length s ≡ 96 → seat_of s n ≡ Some g → n < 96
seat_low s n g size e = elim (cases_lt n 96) [ inl low ↦ low | inr past ↦ absurd (none_some (seat_of s n) g (seat_past s n size past) e) ]

pub seat_empty : (n : ℕ) → seat_of (replicate 96 None) n ≡ None
seat_empty n = elim (cases_lt n 96) [ inl h ↦ get_or-replicate 96 n None None h | inr h ↦ get_or_past (replicate 96 None) n None h ]

module _ (s : List (Option ℕ)) (n : ℕ) (low : n < length s) where
  -- where a team stands once n stands nowhere
  pub after_clear : (m k : ℕ) → seat_of (set s n None) m ≡ Some k → seat_of s m ≡ Some k
  after_clear m k e = grind (arith, common_steps)

  pub clear_single : OnePerPot s → OnePerPot (set s n None)
  clear_single one u v (pot, (k, a, b)) = one u v (pot, (k, after_clear u k a, after_clear v k b))

  pub clear_lettered : Lettered s → Lettered (set s n None)
  clear_lettered low m k e = low m k (after_clear m k e)
