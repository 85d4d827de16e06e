use Rattle.std.proofs.Common.{rules, tests, ap, ◌∙◌}
use Rattle.second_office.specs.Typing.{place_of}
use Rattle.second_office.proofs.Earliest.{comes_next, each_team, first_found, least, only_teams}
use Rattle.second_office.proofs.typed.Typed.first_of.Goals as goal

pub returns : goal.returns
returns c =
    let s = c.args.self.now in
    let pot = c.args.pot in
    let ran = c.min_by_key.ensures.runs in
    let p = ran.0 in
    let passed = c.filter.ensures.runs p p.seen ran.1 in
    let q = passed.0 in
    let start = ap (λ r. r.start) passed.1 in
    let end = ap (λ r. r.end) passed.1 in
    first_found s pot q.items p.items (each_team q start end (passed.2.0 ∙ ran.2)) (only_teams q start end)
    (passed.2.4 (comes_next s pot) (λ x r f e. search (rules, tests))) c.min_by_key.result
    (least p _ _ (place_of s) (λ a r f e. search rules) (λ x r f e. search rules) c.min_by_key.result ran.3)
