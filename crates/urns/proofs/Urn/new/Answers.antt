use Rattle.std.proofs.Common.{refl}
use Rattle.urns.specs.Answering.{decided, shape_teams}
use Rattle.urns.proofs.Urn.new.Goals as goal

pub returns-clause-start : goal.returns-clause-start
returns-clause-start c = rw c.of_shape.ensures (record { number = refl; teams = shape_teams c.args.shape })

pub returns-clause-decided : goal.returns-clause-decided
returns-clause-decided c = decided
