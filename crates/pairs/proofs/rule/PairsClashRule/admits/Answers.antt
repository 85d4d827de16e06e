use Rattle.std.proofs.Common.{arith, below_more}
use Rattle.pairs.proofs.rule.PairsClashRule.admits.Goals as goal

pub loop-one-preserved : goal.loop-one-preserved
loop-one-preserved c = below_more _ _ c.loop-one.invariant c.if-together.ensures

pub returns : goal.returns
returns c i low = c.loop-one.invariant i (omega arith)
