use Rattle.std.proofs.Common.{◌≡◌, rules}
use Rattle.std.proofs.lemmas.Bool.{both_ways}
use Rattle.balls.proofs.Laws.{none_of_pot}
use Rattle.balls.specs.Sets.{count_in}
use Rattle.urns.proofs.picked.Goals as goal

pub returns-in_err-lower : goal.returns-in_err-lower
returns-in_err-lower c =
    let s = c.args.balls.now in
    let none : count_in s c.args.pot ≡ 0 = search rules in
    rw c.from_residual.ensures (λ team of_pot is_in. both_ways _ (none_of_pot s c.args.pot team none of_pot) is_in)
