use Rattle.std.proofs.Common.{rules, arith}
use Rattle.shapes.proofs.Made.{made}
use Rattle.sheet_rules.proofs.Kept.{caps_kept}
use Rattle.sheet_rules.proofs.caps_of.Goals as goal

pub returns : goal.returns
returns c t =
    caps_kept c.args.sheet.now c.from_fn-associations.result (λ n low.
    let (y, here, called) = made _ _ c.from_fn-associations.result (λ a y f e. search rules) 0 96 c.from_fn-associations.ensures.items.each n (omega arith) low in
    search rules) t c.new.result c.new.ensures
