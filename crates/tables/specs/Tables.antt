-- A table by its placements. Every value of the type `Table` is one: a team has at most one group, and a group at
-- most one team of each pot. Assumes nothing.
use Rattle.std.specs.Prelude.{◌≡◌, ℕ, ◌<◌, Some, None, Option, ◌≢◌}
use Rattle.shapes.specs.Teams.{pot_of}
use Rattle.tables.specs.declared.table.Table.{Table}
use Rattle.tables.specs.Seats.{seat_of}

-- the group of a team, if it is placed
abbrev pub group_of : Table → ℕ → Option ℕ
group_of t n = seat_of t.seats n

-- no team is placed
abbrev pub Empty : Table → Type 0
Empty t = (n : ℕ) → group_of t n ≡ None

-- two teams are placed, in one group
abbrev pub Together : Table → ℕ → ℕ → Type 0
Together t m n = (g : ℕ) × (group_of t m ≡ Some g) × (group_of t n ≡ Some g)

-- the group has no team of the pot
abbrev pub FreeSeat : Table → ℕ → ℕ → Type 0
FreeSeat t pot g = (n : ℕ) → pot_of n ≡ pot → group_of t n ≢ Some g

-- the team of a pot in a group, or none where that seat is free
abbrev pub SeatedAt : Table → ℕ → ℕ → Option ℕ → Type 0
SeatedAt t pot g (Some n) = (pot_of n ≡ pot) × (group_of t n ≡ Some g)
SeatedAt t pot g None = FreeSeat t pot g

-- the team can be placed in the group: the two numbers are those of a team and of a group, the team is not placed,
-- and the group has no team of its pot
pub record Placeable (t : Table) (n g : ℕ) : Type 0 where
  pub team : n < 96
  pub group : g < 16
  pub unplaced : group_of t n ≡ None
  pub free : FreeSeat t (pot_of n) g

-- every team but this one stands as before
abbrev pub OthersStay : Table → ℕ → Table → Type 0
OthersStay t n u = (m : ℕ) → (m ≢ n) → group_of u m ≡ group_of t m

-- u is t and this placement
pub record With (t : Table) (n g : ℕ) (u : Table) : Type 0 where
  pub here : group_of u n ≡ Some g
  pub others : OthersStay t n u

-- u is t without the placement of this team
pub record Without (t : Table) (n : ℕ) (u : Table) : Type 0 where
  pub here : group_of u n ≡ None
  pub others : OthersStay t n u

-- two tables with the same placements are equal
abbrev pub Canonical : Type 0
Canonical = (t u : Table) → ((n : ℕ) → group_of t n ≡ group_of u n) → t ≡ u
