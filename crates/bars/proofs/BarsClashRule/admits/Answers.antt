use Rattle.std.proofs.Common.{ℕ, ◌<◌, rules}
use Rattle.shapes.proofs.Exact.{exactly_like}
use Rattle.tables.proofs.Ranges.{all_below}
use Rattle.tables.proofs.Seated.{seat_low}
use Rattle.tables.specs.declared.table.Table.{Table}
use Rattle.bars.specs.Barred.{BarsAdmit, Respected}
use Rattle.bars.specs.declared.Bars.{Bars}
use Rattle.bars.proofs.BarsClashRule.admits.Goals as goal

-- only the numbers below 96 have to be looked at
all_placed : (b : Bars) (t : Table) → ((n : ℕ) → n < 96 → Respected b t n) → BarsAdmit b t
all_placed b t all n g e = all n (seat_low t.seats n g t.whole e) g e

pub returns : goal.returns
returns c =
    let b = c.args.self.now in
    let t = c.args.table.now in
    exactly_like _ (all_placed b t) (λ all n low. all n)
    (all_below 96 (λ n. Respected b t n) _ _ _ c.all.ensures.ran (λ x q k. search rules) (λ x q k. search rules))
