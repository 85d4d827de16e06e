use Rattle.std.proofs.Common.{Bool, false, List, ap, rules}
use Rattle.shapes.specs.Teams.{has_team}
use Rattle.shapes.proofs.Made.{made_by}
use Rattle.balls.specs.Sets.{teams_of}
use Rattle.balls.specs.declared.BallSet.{BallSet}
use Rattle.balls.proofs.BallSet.of_shape.Goals as goal

pub returns : goal.returns
unfolding teams_of
returns c =
    let whole : List Bool → BallSet = λ flags. record { inside = flags } in
    ap whole (made_by _ _ (has_team c.args.shape) (λ i y q k. search rules) 96 c.from_fn.result false c.from_fn.ensures.items)
