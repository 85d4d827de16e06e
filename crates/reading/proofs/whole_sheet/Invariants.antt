use Rattle.std.proofs.Common.{◌-◌, length}
use Rattle.reading.proofs.Going.{Sofar}
use Rattle.reading.proofs.whole_sheet.Given as goal

abbrev pub invariant-loop-item : goal.invariant-loop-item
invariant-loop-item l = Sofar l.bytes l.sheet l.place

abbrev pub decreases-loop-item : goal.decreases-loop-item
decreases-loop-item l = length l.bytes - l.place
