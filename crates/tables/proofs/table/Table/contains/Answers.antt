use Rattle.std.proofs.Common.{rules}
use Rattle.std.proofs.lemmas.Iterator.{YieldsList-from_slice, YieldsList-from_zip, cases_from_all}
use Rattle.tables.proofs.Drawn.{Kept, contained_answer}
use Rattle.tables.proofs.table.Table.contains.Goals as goal

pub returns : goal.returns
returns c =
    let t = c.args.self.now in
    let u = c.args.other.now in
    contained_answer t u _
    (cases_from_all c.all.new.self _ _ Kept (λ p. Kept p → ⊥) c.all.ensures.ran (YieldsList-from_zip (YieldsList-from_slice t.seats (search rules)) (YieldsList-from_slice u.seats (search rules))) (λ x q k. search rules) (λ x q k. search rules))
