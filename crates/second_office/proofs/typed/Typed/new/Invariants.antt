use Rattle.second_office.specs.Places.{Noted}
use Rattle.second_office.proofs.typed.Typed.new.Given as goal

abbrev pub invariant-loop-place : goal.invariant-loop-place
invariant-loop-place l = Noted l.numbers l.place l.places
