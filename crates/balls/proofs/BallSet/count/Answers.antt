use Rattle.std.proofs.Common.{cond, rules, tests, refl, arith}
use Rattle.std.specs.List.{range_with_len}
use Rattle.std.proofs.lemmas.Iterator.{YieldsList-from_range, YieldsList-from_map}
use Rattle.std.proofs.lemmas.Iterator.Consumers.{fits_by_from_yields_list, sum_by_from_yields_List}
use Rattle.std.proofs.lemmas.List.Sums.{count_by-le-length}
use Rattle.shapes.proofs.Ranges.{count_sum}
use Rattle.balls.specs.Sets.{has_ball}
use Rattle.balls.proofs.BallSet.count.Goals as goal

pub returns : goal.returns
returns c =
    let p = has_ball c.args.self.now c.args.pot in
    count_sum p 16 _ (sum_by_from_yields_List (λ x. cond (p x) 1 0) (range_with_len 0 16) c.map.result c.sum.result c.sum.ensures.ran
    (YieldsList-from_map _ (λ x. cond (p x) 1 0) (YieldsList-from_range _ _ _ c.map.ensures.source refl) c.map.ensures.closure (λ x r q k. search (rules, tests))))

pub sum-requires-clause-fits : goal.sum-requires-clause-fits
sum-requires-clause-fits c =
    let p = has_ball c.args.self.now c.args.pot in
    let few = count_by-le-length p (range_with_len 0 16) in
    fits_by_from_yields_list (λ x. cond (p x) 1 0) (range_with_len 0 16) c.map.result 256
    (YieldsList-from_map _ (λ x. cond (p x) 1 0) (YieldsList-from_range _ _ _ c.map.ensures.source refl) c.map.ensures.closure (λ x r q k. search (rules, tests))) (omega (arith, few))
