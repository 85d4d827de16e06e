-- What caps forbid. Assumes nothing.
use Rattle.std.specs.Prelude.{◌≡◌, ℕ, ◌≤◌, Bool, false, cond, ◌&&◌, Some, None, Option, ◌==◌, nat_lt, slice_index_or}
use Rattle.shapes.specs.Counting.{count_below}
use Rattle.tables.specs.Tables.{group_of}
use Rattle.tables.specs.declared.table.Table.{Table}
use Rattle.caps.specs.declared.caps.Caps.{Caps}

-- there is a number, and it is this one
abbrev pub is_this : Option ℕ → ℕ → Bool
is_this None n = false
is_this (Some m) n = m == n

-- the association of a team, if it has one
abbrev pub association_of : Caps → ℕ → Option ℕ
association_of c n = slice_index_or c.associations n None

-- the team is of the association
abbrev pub belongs : Caps → ℕ → ℕ → Bool
belongs c n a = is_this (association_of c n) a

-- the cap of an association, if it has one; association numbers end at 64
abbrev pub cap_of : Caps → ℕ → Option ℕ
cap_of c a = cond (nat_lt a 65) (slice_index_or c.caps a None) None

-- the team stands in the group
abbrev pub stands_in : Table → ℕ → ℕ → Bool
stands_in t n g = is_this (group_of t n) g

-- the team is of the association and stands in the group
abbrev pub is_mate : Caps → Table → ℕ → ℕ → ℕ → Bool
is_mate c t a g n = belongs c n a && stands_in t n g

-- how many such teams there are; team numbers end at 95
abbrev pub mates_in : Caps → Table → ℕ → ℕ → ℕ
mates_in c t a g = count_below (is_mate c t a g) 96

-- the tables that caps admit: no group has more teams of an association than its cap
abbrev pub CapsAdmit : Caps → Table → Type 0
CapsAdmit c t = (a g most : ℕ) → cap_of c a ≡ Some most → mates_in c t a g ≤ most
