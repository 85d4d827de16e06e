-- Full draws, containment, and the team of a seat, number by number.
use Rattle.std.proofs.Common.{◌≡◌, ℕ, ◌+◌, ◌*◌, ◌<◌, ◌≤◌, Bool, true, false, length, get_or, Some, None, Option, MatchBool, MatchOption, arith, sym, refl, ap, ◌∙◌, subst}
use Rattle.std.proofs.lemmas.Slice.Zip.{get_or-zip, length-zip}
use Rattle.std.specs.List.{AllWithin, HoldsAt, zip}
use Rattle.shapes.specs.Answers.{Exactly}
use Rattle.shapes.specs.declared.Shape.{Shape}
use Rattle.shapes.specs.Teams.{HasTeam, Takes, pot_of}
use Rattle.tables.specs.declared.table.Table.{Table}
use Rattle.tables.specs.Draws.{ContainedIn, FullDraw, Settled}
use Rattle.tables.specs.Tables.{SeatedAt, group_of}
use Rattle.tables.proofs.Seated.{none_some, some_same, cases_some, seat_low}

settled_placed : (s : Shape) (n : ℕ) (o : Option ℕ) → Settled s n o → HasTeam s n → (g : ℕ) × (o ≡ Some g) × Takes s (pot_of n) g
settled_placed s n None r has = absurd (r has)
settled_placed s n (Some g) r has = (g, refl, r.1)

settled_team : (s : Shape) (n g : ℕ) (o : Option ℕ) → o ≡ Some g → Settled s n o → HasTeam s n
settled_team s n g o e r = let q = subst (Settled s n) e r in q.0

settled_from : (s : Shape) (n : ℕ) (o : Option ℕ) → ((g : ℕ) → o ≡ Some g → HasTeam s n × Takes s (pot_of n) g) → (HasTeam s n → o ≡ None → ⊥) → Settled s n o
settled_from s n None some none = λ has. none has refl
settled_from s n (Some g) some none = some g refl

module _ (s : Shape) (t : Table) where
  pub full_from_settled : ((n : ℕ) → n < 96 → Settled s n (group_of t n)) → FullDraw s t
  full_from_settled all = record {
    every = λ n has. settled_placed s n (group_of t n) (all n has.0) has;
    only = λ n g e. settled_team s n g (group_of t n) e (all n (seat_low t.seats n g t.whole e));
  }

  pub full_settled : FullDraw s t → (n : ℕ) → Settled s n (group_of t n)
  full_settled full n =
      settled_from s n (group_of t n)
      (λ g e. let has = full.only n g e in
      let p = full.every n has in
      (has, subst (Takes s (pot_of n)) (some_same (group_of t n) p.0 g p.1 e) p.2))
      (λ has e. let p = full.every n has in none_some (group_of t n) p.0 e p.1)

-- what the one table has here, the other has
abbrev pub Kept : Option ℕ × Option ℕ → Type 0
Kept p = (g : ℕ) → p.1 ≡ Some g → p.0 ≡ Some g

-- the two tables' entries side by side: only numbers below 96 have to be looked at
module _ (t u : Table) where
  beside : (n : ℕ) → n < 96 → get_or (zip t.seats u.seats) n (None, None) ≡ (group_of t n, group_of u n)
  beside n low = get_or-zip t.seats u.seats n (None, None) (omega (arith, t.whole)) (omega (arith, u.whole))

  long : length (zip t.seats u.seats) ≡ 96
  long = omega (arith, length-zip t.seats u.seats, t.whole, u.whole)

  pub contained_answer : (r : Bool) → MatchBool r (AllWithin Kept (zip t.seats u.seats) 0 (length (zip t.seats u.seats))) ((k : ℕ) × (k < length (zip t.seats u.seats)) × HoldsAt (λ p. Kept p → ⊥) (zip t.seats u.seats) k) → Exactly r (ContainedIn u t)
  contained_answer true all = λ n g e. let low = seat_low u.seats n g u.whole e in subst Kept (beside n low) (all n (None, None) (omega arith) (omega (arith, long))) g e
  contained_answer false (k, within, never) = λ part. never (None, None) (subst Kept (sym (beside k (omega (arith, within, long)))) (part k))

-- each contained in the other
pub same_placements : (t u : Table) → ContainedIn t u → ContainedIn u t → (n : ℕ) → group_of t n ≡ group_of u n
same_placements t u there back n = grind (arith, there n, back n, cases_some (group_of t n), cases_some (group_of u n))

pub contained_equal : (t u : Table) → t ≡ u → ContainedIn t u
contained_equal t u e n g p = ap (λ (x : Table). group_of x n) (sym e) ∙ p

-- the first team of the pot that stands in the group, or none
pub seated_from : (t : Table) (pot g : ℕ) (o : Option ℕ)
    → MatchOption o ((n : ℕ) → 16 * pot ≤ n → n < 16 * pot + 16 → group_of t n ≡ Some g → ⊥) (λ n. (16 * pot ≤ n) × (n < 16 * pot + 16) × (group_of t n ≡ Some g) × ((k : ℕ) → 16 * pot ≤ k → k < n → group_of t k ≡ Some g → ⊥))
    → SeatedAt t pot g o
seated_from t pot g None none = λ n in_pot. none n (omega arith) (omega arith)
seated_from t pot g (Some n) found = (omega arith, found.2)
