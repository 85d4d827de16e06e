-- What `all` over a range answers, said of the numbers in it.
use denote.Param.Members.{Mut}
use Rattle.std.proofs.Common.{◌≡◌, ℕ, ◌<◌, Bool, true, false, List, Option, MatchOption, MatchBool, get_or, length, subst, refl, arith}
use Rattle.std.proofs.iter.Yields.{nat_range_steps}
use Rattle.std.proofs.lemmas.Iterator.{YieldsList-from_range, cases_from_all}
use Rattle.std.proofs.lemmas.List.FromFn.{get_or-range_with_len, length-range_with_len}
use Rattle.std.specs.Fn.{Called}
use Rattle.std.specs.Iterator.{YieldsThen}
use Rattle.std.specs.List.{AllWithin, FoldsTo, HoldsAt, range_with_len}
use Rattle.std.specs.declared.ops.Range.{Range}
use Rattle.shapes.specs.Answers.{Exactly}

module _ (n : ℕ) (P : ℕ → Type 0) where
  here : (k : ℕ) → k < n → get_or (range_with_len 0 n) k 0 ≡ k
  here k low = omega (arith, get_or-range_with_len 0 n k 0 low)

  of_numbers : (r : Bool) → MatchBool r (AllWithin P (range_with_len 0 n) 0 (length (range_with_len 0 n))) ((k : ℕ) × (k < length (range_with_len 0 n)) × HoldsAt (λ x. P x → ⊥) (range_with_len 0 n) k) → Exactly r ((k : ℕ) → k < n → P k)
  of_numbers true all = λ k low. subst P (here k low) (all k 0 (omega arith) (omega (arith, length-range_with_len 0 n)))
  of_numbers false (k, within, never) = λ all. let low : k < n = omega (arith, within, length-range_with_len 0 n) in never 0 (subst P (omega (arith, here k low)) (all k low))

  pub all_below : {F : Type 0} {g : Mut F (ℕ × Unit {0}) Bool} (u : Range ℕ) (f : F) (r : Bool)
      → (xs : List ℕ) × (o : Option ℕ) × (j : F) × YieldsThen nat_range_steps (record { start = 0; end = n }) xs o u × FoldsTo (λ p x q. Called g p (x, tt) true q) f xs j × MatchOption o (r ≡ true) (λ x. (r ≡ false) × ((h : F) × Called g j (x, tt) false h))
      → ((x : ℕ) (q : F) → Called g f (x, tt) true q → (q ≡ f) × P x) → ((x : ℕ) (q : F) → Called g f (x, tt) false q → P x → ⊥) → Exactly r ((k : ℕ) → k < n → P k)
  all_below u f r ran holds fails = of_numbers r (cases_from_all u f r P (λ x. P x → ⊥) ran (YieldsList-from_range 0 n n refl (omega arith)) holds fails)
