-- Two tables with the same placements are one value.
use mathlib.Core.HLevel.{Π_prop, is_prop→PathP}
use Rattle.std.proofs.Common.{◌≡◌, ℕ, Bool, true, false, nat_eq, List, Some, None, Option, refl, sym, ap, ◌∙◌}
use native.Mathlib.Bridge.{le_prop}
use native.Mathlib.Nat.{ℕ_set}
use Rattle.std.proofs.lemmas.List.{ext_get_or}
use Rattle.std.proofs.lemmas.Bool.{false≢true}
use Rattle.std.proofs.lemmas.Bool.Decides.{Decides-eqb}
use Rattle.std.proofs.lemmas.Slice.Eq.{slice_eq-Decides}
use Rattle.std.specs.Bool.{Decides}
use Rattle.std.specs.Cmp.Lexicographic.{pointwise}
use Rattle.std.specs.Option.{option_eq}
use Rattle.shapes.specs.Answers.{Exactly}
use Rattle.tables.specs.declared.table.Table.{Table}
use Rattle.tables.specs.Seats.{Lettered, OnePerPot, Whole}
use Rattle.tables.specs.Tables.{Canonical}

whole_prop : (s : List (Option ℕ)) → IsProp (Whole s)
whole_prop s = ℕ_set _ _

single_prop : (s : List (Option ℕ)) → IsProp (OnePerPot s)
single_prop s = Π_prop (λ m. Π_prop (λ n. Π_prop (λ h. ℕ_set m n)))

lettered_prop : (s : List (Option ℕ)) → IsProp (Lettered s)
lettered_prop s = Π_prop (λ n. Π_prop (λ g. Π_prop (λ h. le_prop)))

-- what the type holds of the entries is no part of the value
pub same_seats : (t u : Table) → t.seats ≡ u.seats → t ≡ u
same_seats t u p = λ i. record {
  seats = p i;
  whole = is_prop→PathP (λ j. Whole (p j)) (λ j. whole_prop (p j)) t.whole u.whole i;
  single = is_prop→PathP (λ j. OnePerPot (p j)) (λ j. single_prop (p j)) t.single u.single i;
  lettered = is_prop→PathP (λ j. Lettered (p j)) (λ j. lettered_prop (p j)) t.lettered u.lettered i;
}

pub canonical : Canonical
canonical t u same = same_seats t u (ext_get_or None t.seats u.seats (t.whole ∙ sym u.whole) (λ i h. same i))

entries_decide : (a b : Option ℕ) → Decides (option_eq nat_eq a b) (a ≡ b)
entries_decide None None = (λ e. refl, λ e. refl)
entries_decide None (Some b) = (λ e. cc, λ e. cc)
entries_decide (Some a) None = (λ e. cc, λ e. cc)
entries_decide (Some a) (Some b) = let d = Decides-eqb a b in (λ e. ap Some (d.0 e), λ e. d.1 cc)

decided : (r : Bool) (t u : Table) → Decides r (t.seats ≡ u.seats) → Exactly r (t ≡ u)
decided true t u d = same_seats t u (d.0 refl)
decided false t u d = λ e. false≢true (d.1 (ap (λ (x : Table). x.seats) e))

-- `==` compares the entries
pub same_answer : (t u : Table) (r : Bool) → r ≡ pointwise (option_eq nat_eq) t.seats u.seats → Exactly r (t ≡ u)
same_answer t u r e = decided r t u (slice_eq-Decides entries_decide t.seats u.seats r e)
