use Rattle.std.proofs.Common.{◌≡◌, ℕ, Some, arith, rules}
use Rattle.std.proofs.lemmas.Iterator.{first_from_Range}
use Rattle.tables.specs.Tables.{group_of}
use Rattle.tables.proofs.Drawn.{seated_from}
use Rattle.tables.proofs.Seated.{seat_low}
use Rattle.tables.proofs.table.Table.team_at.Goals as goal

pub returns-then-pot-ge6 : goal.returns-then-pot-ge6
returns-then-pot-ge6 c n pot e = let t = c.args.self.now in omega (arith, seat_low t.seats n c.args.group t.whole e)

pub returns : goal.returns
returns c =
    let Here : ℕ → Type 0 = λ n. group_of c.args.self.now n ≡ Some c.args.group in
    seated_from c.args.self.now c.args.pot c.args.group _ (first_from_Range _ _ _ _ Here (λ n. Here n → ⊥) c.find.ensures.ran (λ x q k. search rules) (λ x q k. search rules))
