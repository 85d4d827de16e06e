-- When a table can be completed, under any collection of tables that keeps the removal law.
use Rattle.std.proofs.Common.{◌≡◌, ℕ, zero, suc, ◌<◌, ◌≤◌, length, set, Some, None, sym, refl, ap, ◌∙◌, subst, inl, inr, arith, length-set}
use Rattle.std.proofs.lemmas.Grind.{common_steps}
use Rattle.shapes.specs.declared.Shape.{Shape}
use Rattle.shapes.specs.Teams.{Takes, pot_of}
use Rattle.tables.specs.declared.table.Table.{Table}
use Rattle.tables.specs.Completions.{Completions, Removal}
use Rattle.tables.specs.Draws.{Admissible, ContainedIn, FullDraw}
use Rattle.tables.specs.Tables.{Without, group_of}
use Rattle.tables.proofs.Drawn.{same_placements}
use Rattle.tables.proofs.Equal.{canonical}
use Rattle.tables.proofs.Seated.{cases_some, clear_lettered, clear_single, seat_past, some_same}

-- there is the table without the placement of a team
removed : (t : Table) (n : ℕ) → n < 96 → (u : Table) × Without t n u
removed t n low =
    let within : n < length t.seats = omega (arith, t.whole) in (
      record {
        seats = set t.seats n None;
        whole = length-set t.seats n None ∙ t.whole;
        single = clear_single t.seats n within t.single;
        lettered = clear_lettered t.seats n within t.lettered;
      },
      record { here = grind (arith, common_steps); others = λ m ne. grind (arith, common_steps) },
    )

-- nothing stands past the last number
none_past : (t : Table) (n : ℕ) → 96 ≤ n → group_of t n ≡ None
none_past t n past = seat_past t.seats n t.whole past

-- a full draw has no other full draw above it
alone : (shape : Shape) (t d : Table) → FullDraw shape t → FullDraw shape d → ContainedIn t d → t ≡ d
alone shape t d full draw part =
    canonical t d (same_placements t d part (λ n g e.
    let p = full.every n (draw.only n g e) in
    p.1 ∙ ap Some (some_same (group_of d n) p.0 g (part n p.0 p.1) e)))

module _ (Admits : Table → Type 0) (removal : Removal Admits) where
  -- the placements below n that the larger table has and t lacks, taken out one by one
  record Thinned (t u : Table) (n : ℕ) : Type 0 where
    table : Table
    admits : Admits table
    below : (i : ℕ) → i < n → group_of table i ≡ group_of t i
    above : (i : ℕ) → n ≤ i → group_of table i ≡ group_of u i

  thinned : (t u : Table) → ContainedIn t u → Admits u → (n : ℕ) → n ≤ 96 → Thinned t u n
  thinned t u part ok zero few = record { table = u; admits = ok; below = λ i h. absurd (omega arith); above = λ i h. refl }
  thinned t u part ok (suc n) few =
      let r = thinned t u part ok n (omega arith) in
      elim (cases_some (group_of t n)) [
        | inl none ↦
            let out = removed r.table n (omega arith) in
            record {
              table = out.0;
              admits = removal r.table n out.0 out.1 r.admits;
              below = λ i h. grind (arith, out.1.here, out.1.others i, r.below i);
              above = λ i h. grind (arith, out.1.others i, r.above i);
            }
        | inr p ↦ record {
          table = r.table;
          admits = r.admits;
          below = λ i h. grind (arith, p.1, part n p.0 p.1, r.above n, r.below i);
          above = λ i h. r.above i (omega arith);
        }
      ]

  -- what is part of an admitted table is admitted
  pub admitted_part : (t u : Table) → ContainedIn t u → Admits u → Admits t
  admitted_part t u part ok =
      let r = thinned t u part ok 96 (omega arith) in
      subst Admits (canonical r.table t (λ i. grind (arith, r.below i, none_past r.table i, none_past t i))) r.admits

  pub completions : Completions Admits
  completions = record {
    part_admitted = admitted_part;
    full = λ shape t ok. (t, ok, (λ n g e. e));
    part = λ shape t u part c. (c.0, c.1, (λ n g e. c.2 n g (part n g e)));
    admitted = λ shape t c. admitted_part t c.0 c.2 c.1.1;
    fits = λ shape t c n g e.
        let full = c.1.0 in
        let has = full.only n g (c.2 n g e) in
        let p = full.every n has in
        (has, subst (Takes shape (pot_of n)) (some_same (group_of c.0 n) p.0 g p.1 (c.2 n g e)) p.2);
    only = λ shape t full c. subst (Admissible Admits shape) (sym (alone shape t c.0 full c.1.0 c.2)) c.1;
  }
