use Rattle.std.proofs.Common.{Decides, rules}
use Rattle.std.proofs.iter.runs.Made.{chains}
use Rattle.std.proofs.lemmas.Bool.Decides.{same_from_decides}
use Rattle.orders.specs.Orders.{all_in_place}
use Rattle.orders.proofs.Deciding.{AllFollow, decides_each, order_like, place_like}
use Rattle.orders.proofs.all_in_place.Goals as goal

pub returns : goal.returns
returns c =
    let follow : Decides c.all.result (AllFollow c.args.balls c.args.order.now) = search (rules, chains) in
    let each = place_like c.args.balls c.args.order.now c.all.result c.told-order follow in
    record {
      test = same_from_decides c.all.result (all_in_place c.args.balls c.args.order.now) each (decides_each c.args.balls c.args.order.now);
      exact = λ few. order_like c.args.balls c.args.order.now c.all.result few each;
    }
