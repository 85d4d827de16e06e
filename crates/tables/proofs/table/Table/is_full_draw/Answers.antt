use Rattle.std.proofs.Common.{rules}
use Rattle.shapes.proofs.Exact.{exactly_like}
use Rattle.tables.specs.Draws.{Settled}
use Rattle.tables.specs.Tables.{group_of}
use Rattle.tables.proofs.Drawn.{full_from_settled, full_settled}
use Rattle.tables.proofs.Ranges.{all_below}
use Rattle.tables.proofs.table.Table.is_full_draw.Goals as goal

pub returns : goal.returns
returns c =
    let t = c.args.self.now in
    exactly_like _ (full_from_settled c.args.shape t) (λ full n low. full_settled c.args.shape t full n)
    (all_below 96 (λ n. Settled c.args.shape n (group_of t n)) _ _ _ c.all.ensures.ran (λ x q k. search rules) (λ x q k. search rules))
