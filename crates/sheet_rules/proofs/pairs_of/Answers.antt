use Rattle.std.proofs.Common.{◌≡◌, ◌-◌, min, length, take, ap, arith, subst, ◌∙◌, rules}
use Rattle.std.proofs.lemmas.List.{take_min}
use Rattle.pairs.specs.Listed.{Listing}
use Rattle.sheet_rules.proofs.pairs_of.Goals as goal

pub returns : goal.returns
returns c =
    let s = c.args.sheet.now in
    let long : length s.pairs ≡ 64 = search rules in
    let front : c.min-listed.result - 0 ≡ min s.listed (length s.pairs) = omega arith in
    subst (Listing _) c.unwrap.ensures c.new.ensures ∙ ap (λ n. take n s.pairs) front ∙ take_min s.listed s.pairs
