use Rattle.std.proofs.Common.{◌<◌, sym, ◌∙◌, rules}
use Rattle.tables.proofs.Seated.{seat_low}
use Rattle.tables.proofs.table.Table.take_off.Goals as goal

pub invariant_of-self : goal.invariant_of-self
invariant_of-self c =
    let t = c.args.self.now in
    let low : c.args.team < 96 = seat_low t.seats c.args.team c.in_ok-group.group t.whole (sym c.group_of.ensures ∙ c.in_ok-group.was) in
    search rules
