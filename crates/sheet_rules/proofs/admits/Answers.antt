use Rattle.shapes.proofs.Exact.{exactly_like}
use Rattle.sheet_rules.proofs.admits.Goals as goal

pub returns : goal.returns
returns c = let means = c.rule_of.ensures c.args.table.now in exactly_like _ means.0 means.1 c.admits.ensures
