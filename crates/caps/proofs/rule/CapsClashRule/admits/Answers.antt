use Rattle.std.proofs.Common.{ℕ, ◌+◌, List, sym, subst, arith}
use Rattle.caps.specs.Pass.{Counted}
use Rattle.caps.proofs.Passing.{begun, counted, passed, refused}
use Rattle.caps.proofs.rule.CapsClashRule.admits.Goals as goal

pub loop-team-init : goal.loop-team-init
loop-team-init c = subst (λ (x : List (List ℕ)). Counted c.args.self.now c.args.table.now x 0) (sym c.new-mates.ensures) (begun c.args.self.now c.args.table.now)

pub loop-team-preserved-in_default : goal.loop-team-preserved-in_default
loop-team-preserved-in_default c = passed c.args.self.now c.args.table.now c.loop-team.mates.counts c.loop-team.team c.in_default.ensures c.loop-team.invariant

pub returns-then-not-add : goal.returns-then-not-add
returns-then-not-add c =
    let m = c.in-Some.mate in
    let e = c.in-Some.ensures in
    refused c.args.self.now c.args.table.now c.loop-team.mates.counts c.loop-team.team m.association m.group m.most e.0 e.1 e.2 c.loop-team.invariant c.loop-team-test.true (omega (arith, c.if-not-add.ensures.answer))

pub loop-team-preserved : goal.loop-team-preserved
loop-team-preserved c =
    let m = c.in-Some.mate in
    let e = c.in-Some.ensures in
    let counts = c.loop-team.mates.counts in
    subst (λ (x : List (List ℕ)). Counted c.args.self.now c.args.table.now x (c.loop-team.team + 1)) (sym c.if-not-add.ensures.after)
    (counted c.args.self.now c.args.table.now counts c.loop-team.team m.association m.group m.most e.0 e.1 e.2 c.loop-team.invariant m.lettered c.if-not-add.ensures.answer)
