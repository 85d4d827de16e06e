use Rattle.caps.specs.Pass.{Counted}
use Rattle.caps.proofs.rule.CapsClashRule.admits.Given as goal

abbrev pub invariant-loop-team : goal.invariant-loop-team
invariant-loop-team l = Counted l.self l.table l.mates.counts l.team
