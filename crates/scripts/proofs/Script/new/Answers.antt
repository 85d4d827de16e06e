use Rattle.std.proofs.Common.{rules}
use Rattle.scripts.specs.Laws.{holds_teams}
use Rattle.scripts.proofs.Script.new.Goals as goal

pub returns-then-all_ordered-clause-holds : goal.returns-then-all_ordered-clause-holds
returns-then-all_ordered-clause-holds c = rw c.of_shape.ensures (holds_teams c.args.shape c.args.orders.now (search rules))
