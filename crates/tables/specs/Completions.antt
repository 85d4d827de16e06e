-- What follows for completion from the removal law. Assumes nothing.
use Rattle.std.specs.Prelude.{◌≡◌, ℕ, Some}
use Rattle.shapes.specs.declared.Shape.{Shape}
use Rattle.shapes.specs.Teams.{HasTeam, Takes, pot_of}
use Rattle.tables.specs.declared.table.Table.{Table}
use Rattle.tables.specs.Draws.{Admissible, Completable, ContainedIn, FullDraw}
use Rattle.tables.specs.Tables.{Without, group_of}

-- the removal law: an admitted table stays admitted when the placement of any team is taken out
abbrev pub Removal : (Table → Type 0) → Type 0
Removal Admits = (before : Table) (team : ℕ) (after : Table) → Without before team after → Admits before → Admits after

pub record Completions (Admits : Table → Type 0) : Type 0 where
  -- what is part of an admitted table is admitted: so a refused table is part of none
  pub part_admitted : (t u : Table) → ContainedIn t u → Admits u → Admits t
  -- an admissible full draw can be completed, by itself
  pub full : (shape : Shape) (t : Table) → Admissible Admits shape t → Completable Admits shape t
  -- and a full draw can be completed only where it is admissible
  pub only : (shape : Shape) (t : Table) → FullDraw shape t → Completable Admits shape t → Admissible Admits shape t
  -- what is part of a table that can be completed can be completed
  pub part : (shape : Shape) (t u : Table) → ContainedIn t u → Completable Admits shape u → Completable Admits shape t
  -- a table that can be completed is admitted
  pub admitted : (shape : Shape) (t : Table) → Completable Admits shape t → Admits t
  -- and has teams of the shape alone, each in a group that takes it
  pub fits : (shape : Shape) (t : Table) → Completable Admits shape t → (n g : ℕ) → group_of t n ≡ Some g → HasTeam shape n × Takes shape (pot_of n) g
