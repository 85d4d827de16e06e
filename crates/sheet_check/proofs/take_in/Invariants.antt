use Rattle.std.proofs.Common.{◌≤◌}
use Rattle.sheet_check.proofs.take_in.Given as goal

-- what came lies within the buffer
abbrev pub invariant-loop : goal.invariant-loop
invariant-loop g l = l.taken ≤ 4096
