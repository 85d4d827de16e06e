-- What is left after a placement was taken out stood there before: what a removal law is shown with.
use Rattle.std.proofs.Common.{ℕ, arith}
use Rattle.tables.specs.declared.table.Table.{Table}
use Rattle.tables.specs.Draws.{ContainedIn}
use Rattle.tables.specs.Tables.{Together, Without}

module _ (before : Table) (team : ℕ) (after : Table) (out : Without before team after) where
  pub stood_before : ContainedIn after before
  stood_before n g e = grind (arith, e, out.here, out.others n)

  pub together_before : (m n : ℕ) → Together after m n → Together before m n
  together_before m n (g, a, b) = (g, stood_before m g a, stood_before n g b)
