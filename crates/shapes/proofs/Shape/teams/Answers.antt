use Rattle.std.proofs.Common.{ℕ, cond, refl, ◌∙◌, arith, rules, tests}
use Rattle.std.specs.List.{range_with_len}
use Rattle.std.proofs.lemmas.Iterator.{YieldsList-from_map, YieldsList-from_range}
use Rattle.std.proofs.lemmas.Iterator.Adapters.{at_most_from_yields_List, fits_from_length}
use Rattle.std.proofs.lemmas.Iterator.Consumers.{sum_by_from_yields_List}
use Rattle.shapes.specs.Teams.{has_team}
use Rattle.shapes.proofs.Products.{team_product}
use Rattle.shapes.proofs.Ranges.{count_sum}
use Rattle.shapes.proofs.Shape.teams.Goals as goal

pub sum-requires-clause-fits : goal.sum-requires-clause-fits
sum-requires-clause-fits c =
    fits_from_length _ _ 96 _ (at_most_from_yields_List (YieldsList-from_range _ _ _ c.map.ensures.source refl) (grind arith)) c.map.ensures.closure (omega arith) (λ x r q k. search (rules, tests))

pub returns-clause-count : goal.returns-clause-count
returns-clause-count c =
    let p = has_team c.args.self in
    let one = λ (x : ℕ). cond (p x) 1 0 in
    count_sum p _ _ (sum_by_from_yields_List one (range_with_len 0 96) c.map.result _ c.sum.ensures.ran
    (YieldsList-from_map _ one (YieldsList-from_range _ _ _ c.map.ensures.source refl) c.map.ensures.closure (λ x r q k. search (rules, tests))))

pub returns-clause-product : goal.returns-clause-product
returns-clause-product c = λ z. returns-clause-count c ∙ team_product c.args.self z
