-- Full draws of a shape, and the tables that can still become one. `Admits` is the collection of tables that a clash
-- rule admits. Assumes nothing.
use Rattle.std.specs.Prelude.{◌≡◌, ℕ, Some, None, Option}
use Rattle.shapes.specs.declared.Shape.{Shape}
use Rattle.shapes.specs.Teams.{HasTeam, Takes, pot_of}
use Rattle.tables.specs.declared.table.Table.{Table}
use Rattle.tables.specs.Tables.{group_of}

-- the table places every team of the shape, in a group that takes a team of its pot, and no other team
pub record FullDraw (shape : Shape) (t : Table) : Type 0 where
  pub every : (n : ℕ) → HasTeam shape n → (g : ℕ) × (group_of t n ≡ Some g) × Takes shape (pot_of n) g
  pub only : (n g : ℕ) → group_of t n ≡ Some g → HasTeam shape n

-- each placement of the one is a placement of the other
abbrev pub ContainedIn : Table → Table → Type 0
ContainedIn t u = (n g : ℕ) → group_of t n ≡ Some g → group_of u n ≡ Some g

-- a full draw that the rule admits
abbrev pub Admissible : (Table → Type 0) → Shape → Table → Type 0
Admissible Admits shape t = FullDraw shape t × Admits t

-- there is an admissible full draw that has all the placements of the table
abbrev pub Completable : (Table → Type 0) → Shape → Table → Type 0
Completable Admits shape t = (d : Table) × Admissible Admits shape d × ContainedIn t d

-- what a full draw says of one number: a team of the shape stands in a group that takes a team of its pot, and any
-- other number is not placed
abbrev pub Settled : Shape → ℕ → Option ℕ → Type 0
Settled shape n None = HasTeam shape n → ⊥
Settled shape n (Some g) = HasTeam shape n × Takes shape (pot_of n) g
