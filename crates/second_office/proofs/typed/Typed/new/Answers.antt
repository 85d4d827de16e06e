use Rattle.std.proofs.Common.{◌≡◌, ℕ, ◌+◌, true, List, Option, None, is_some, sym, subst, arith}
use Rattle.std.specs.List.{slice_index, slice_index_or}
use Rattle.second_office.specs.Places.{Noted, all_noted, none_noted, noted_before, noted_first}
use Rattle.second_office.proofs.typed.Typed.new.Goals as goal
use Rattle.second_office.proofs.typed.Typed.new.Goals.{then-team-lt96+then-is_none, else-team-lt96, else-team-lt96-via-then-team-lt96+else-is_none, else-team-lt96-via-else-team-lt96}

pub loop-place-init : goal.loop-place-init
loop-place-init c = none_noted c.args.numbers.now

pub loop-place-preserved : goal.loop-place-preserved
loop-place-preserved c =
    let numbers = c.args.numbers.now in
    let now = c.loop-place.place in
    let Next : List (Option ℕ) → Type 0 = Noted numbers (now + 1) in
    let same : c.from-team.result ≡ slice_index numbers now = c.from-team.ensures in
    elim c.if-team-lt96.branch [
      | then-team-lt96+then-is_none w ↦
          subst Next (sym w.places-is) (noted_first numbers now c.loop-place.places c.loop-place.invariant _ (sym same) w.if-team-lt96.true w.if-is_none.ensures)
      | else-team-lt96 w ↦
          subst Next (sym w.places-is) (noted_before numbers now c.loop-place.places c.loop-place.invariant
          (λ low. elim w.else-team-lt96.branch [
            | else-team-lt96-via-then-team-lt96+else-is_none v ↦ subst (λ (x : ℕ). is_some (slice_index_or c.loop-place.places x None) ≡ true) same v.if-is_none.ensures
            | else-team-lt96-via-else-team-lt96 v ↦ absurd (omega (arith, same, low, v.if-team-lt96.false))
          ]))
    ]

pub returns : goal.returns
returns c = all_noted c.args.numbers.now c.loop-place.place _ (omega arith) c.loop-place.invariant
