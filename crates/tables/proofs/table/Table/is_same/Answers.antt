use Rattle.tables.proofs.Equal.{canonical, same_answer}
use Rattle.tables.proofs.table.Table.is_same.Goals as goal

pub returns-clause-answer : goal.returns-clause-answer
returns-clause-answer c = same_answer _ _ _ c.eq.ensures

pub returns-clause-canonical : goal.returns-clause-canonical
returns-clause-canonical c = canonical
