-- What it is to be drawn into the same half of the groups. Assumes nothing.
use Rattle.std.specs.Prelude.{◌≡◌, ℕ, ◌+◌, ◌/◌, Bool, Some, nat_lt}
use Rattle.tables.specs.Tables.{group_of}
use Rattle.tables.specs.declared.table.Table.{Table}
use Rattle.second_office.specs.declared.same_half.SameHalf.{SameHalf}

-- a group is of the first half: groups count from 0, and the first half has one more where their number is odd
abbrev pub in_first_half : ℕ → ℕ → Bool
in_first_half groups g = nat_lt g ((groups + 1) / 2)

-- where both teams are placed, they stand in one half
abbrev pub SameHalfAdmits : SameHalf → Table → Type 0
SameHalfAdmits rule t = (g h : ℕ) → group_of t rule.one ≡ Some g → group_of t rule.other ≡ Some h → in_first_half rule.groups g ≡ in_first_half rule.groups h
