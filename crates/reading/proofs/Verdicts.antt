-- The answer to a record after others, and the conditions that it goes by.
use Rattle.std.proofs.Common.{◌≡◌, ℕ, ◌+◌, Bool, true, false, cond, not, List, Ok, Err, Decides, Result, sym, refl, ap, ◌∙◌, subst, arith}
use Rattle.std.proofs.lemmas.Bool.{false_from_ne_true, not-true, not-false}
use Rattle.std.proofs.lemmas.Bool.Decides.{not_from_Decides}
use Rattle.shapes.specs.declared.Shape.{Shape}
use Rattle.shapes.specs.Teams.{Sized}
use Rattle.records.specs.declared.refusal.SheetFault.{SheetFault}
use Rattle.records.specs.declared.refusal.SheetRefusal.TheVariants.{ShapeMisplaced, OutOfRange, Repeated, TooManyPairs, NotAnOrder}
use Rattle.records.specs.declared.item.Record.{Record}
use Rattle.records.specs.declared.item.Record.TheVariants.{End}
use Rattle.records.specs.Refusals.{fault}
use Rattle.sheets.specs.Taking.{is_shape, fits, repeated, crowded, ordered, verdict}
use Rattle.reading.specs.Format.{Front, said, Fits, Fresh, Room, Ordered, IsShape, Next, Fails, beyond}
use Rattle.reading.proofs.Judging.{shape_said, decides_shape, decides_fits, decides_fresh, decides_room, decides_ordered}

-- five tests in their order
abbrev tests : Bool → Bool → Bool → Bool → Bool → ℕ → Result (Unit {0}) SheetFault
tests a b c d e at =
    cond a (Err (fault ShapeMisplaced at))
    (cond b (cond c (Err (fault Repeated at)) (cond d (Err (fault TooManyPairs at)) (cond e (Ok tt) (Err (fault NotAnOrder at)))))
    (Err (fault OutOfRange at)))

-- what an answer says of the record at the front
abbrev pub Says : Shape → List Record → Record → List ℕ → ℕ → Result (Unit {0}) SheetFault → Type 0
Says sh rs r rest at (Ok u) = Next sh rs r
Says sh rs r rest at (Err f) = Fails f.refusal sh rs rest × (f.place ≡ at + beyond f.refusal)

module _ (sh : Shape) (rs : List Record) (r : Record) (rest : List ℕ) (at : ℕ) (front : Front r rest) (ne : r ≡ End → ⊥) where
  here : at ≡ at + 0
  here = omega arith

  by_tests : (a b c d e : Bool) → Decides a (IsShape r) → Decides b (Fits sh r) → (Fits sh r → Decides (not c) (Fresh rs r)) → Decides (not d) (Room rs r) → Decides e (Ordered sh r)
      → Says sh rs r rest at (tests a b c d e at)
  by_tests true b c d e da db dc dd de = ((r, front, da.0 refl), here)
  by_tests false false c d e da db dc dd de = ((r, front, (not_from_Decides false da refl, ne), not_from_Decides false db refl), here)
  by_tests false true true d e da db dc dd de =
      let f = db.0 refl in
      ((r, front, (not_from_Decides false da refl, ne), f, not_from_Decides false (dc f) refl), here)
  by_tests false true false true e da db dc dd de =
      let f = db.0 refl in
      ((r, front, (not_from_Decides false da refl, ne), f, (dc f).0 refl, not_from_Decides false dd refl), here)
  by_tests false true false false false da db dc dd de =
      let f = db.0 refl in
      ((r, front, (not_from_Decides false da refl, ne), f, (dc f).0 refl, dd.0 refl, not_from_Decides false de refl), here)
  by_tests false true false false true da db dc dd de =
      let f = db.0 refl in
      record { inner = (not_from_Decides false da refl, ne); fits = f; fresh = (dc f).0 refl; room = dd.0 refl; ordered = de.0 refl }

  pub judged : Sized sh.groups sh.pots → Says sh rs r rest at (verdict (said sh rs) r at)
  judged z =
      subst (λ s. Says sh rs r rest at (tests (is_shape r) (fits s r) (repeated (said sh rs) r) (crowded (said sh rs) r) (ordered s r) at)) (sym (shape_said sh rs))
      (by_tests (is_shape r) (fits sh r) (repeated (said sh rs) r) (crowded (said sh rs) r) (ordered sh r) (decides_shape r) (decides_fits sh r z) (decides_fresh sh rs r z) (decides_room sh rs r) (decides_ordered sh r z))

-- and back: the answer, from the conditions
pub no_to : {P : Type 0} (b : Bool) → Decides b P → (P → ⊥) → b ≡ false
no_to b d h = false_from_ne_true b (λ t. h (d.0 t))

not_to : {P : Type 0} (b : Bool) → Decides (not b) P → (P → ⊥) → b ≡ true
not_to b d h = not-false b (no_to (not b) d h)

module _ (sh : Shape) (rs : List Record) (r : Record) (at : ℕ) (z : Sized sh.groups sh.pots) where
  run : Result (Unit {0}) SheetFault
  run = tests (is_shape r) (fits sh r) (repeated (said sh rs) r) (crowded (said sh rs) r) (ordered sh r) at

  is_run : verdict (said sh rs) r at ≡ run
  unfolding run
  is_run = ap (λ s. tests (is_shape r) (fits s r) (repeated (said sh rs) r) (crowded (said sh rs) r) (ordered s r) at) (shape_said sh rs)

  shape_no : (IsShape r → ⊥) → is_shape r ≡ false
  shape_no h = no_to (is_shape r) (decides_shape r) h

  fresh_no : Fits sh r → Fresh rs r → repeated (said sh rs) r ≡ false
  fresh_no f h = not-true (repeated (said sh rs) r) ((decides_fresh sh rs r z f).1 h)

  room_no : Room rs r → crowded (said sh rs) r ≡ false
  room_no h = not-true (crowded (said sh rs) r) ((decides_room sh rs r).1 h)

  pub next_taken : Next sh rs r → verdict (said sh rs) r at ≡ Ok tt
  unfolding run
  next_taken n =
      let a = shape_no n.inner.0 in
      let b = (decides_fits sh r z).1 n.fits in
      let c = fresh_no n.fits n.fresh in
      let d = room_no n.room in
      let e = (decides_ordered sh r z).1 n.ordered in
      is_run ∙ cc

  pub shape_refused : IsShape r → verdict (said sh rs) r at ≡ Err (fault ShapeMisplaced at)
  unfolding run
  shape_refused h = let a = (decides_shape r).1 h in is_run ∙ cc

  pub range_refused : (IsShape r → ⊥) → (Fits sh r → ⊥) → verdict (said sh rs) r at ≡ Err (fault OutOfRange at)
  unfolding run
  range_refused h f = let a = shape_no h in let b = no_to (fits sh r) (decides_fits sh r z) f in is_run ∙ cc

  pub again_refused : (IsShape r → ⊥) → Fits sh r → (Fresh rs r → ⊥) → verdict (said sh rs) r at ≡ Err (fault Repeated at)
  unfolding run
  again_refused h f g =
      let a = shape_no h in
      let b = (decides_fits sh r z).1 f in
      let c = not_to (repeated (said sh rs) r) (decides_fresh sh rs r z f) g in
      is_run ∙ cc

  pub room_refused : (IsShape r → ⊥) → Fits sh r → Fresh rs r → (Room rs r → ⊥) → verdict (said sh rs) r at ≡ Err (fault TooManyPairs at)
  unfolding run
  room_refused h f g m =
      let a = shape_no h in
      let b = (decides_fits sh r z).1 f in
      let c = fresh_no f g in
      let d = not_to (crowded (said sh rs) r) (decides_room sh rs r) m in
      is_run ∙ cc

  pub order_refused : (IsShape r → ⊥) → Fits sh r → Fresh rs r → Room rs r → (Ordered sh r → ⊥) → verdict (said sh rs) r at ≡ Err (fault NotAnOrder at)
  unfolding run
  order_refused h f g m o =
      let a = shape_no h in
      let b = (decides_fits sh r z).1 f in
      let c = fresh_no f g in
      let d = room_no m in
      let e = no_to (ordered sh r) (decides_ordered sh r z) o in
      is_run ∙ cc
