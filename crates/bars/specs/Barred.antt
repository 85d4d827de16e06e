-- What bars forbid. Assumes nothing.
use Rattle.std.specs.Prelude.{◌≡◌, ℕ, ◌/◌, ◌%◌, ◌^◌, Some, None, Option, slice_index_or}
use Rattle.tables.specs.Tables.{group_of}
use Rattle.tables.specs.declared.table.Table.{Table}
use Rattle.bars.specs.declared.Bars.{Bars}

-- bit g of a number, worth 2^g, is set
abbrev pub HasBit : ℕ → ℕ → Type 0
HasBit w g = (w / 2 ^ g) % 2 ≡ 1

-- an entry bars a group
abbrev pub BarredBy : Option ℕ → ℕ → Type 0
BarredBy (Some w) g = HasBit w g
BarredBy None g = ⊥

-- the group is barred to the team
abbrev pub Barred : Bars → ℕ → ℕ → Type 0
Barred b n g = BarredBy (slice_index_or b.barred n None) g

-- the team stands in no group that is barred to it
abbrev pub Respected : Bars → Table → ℕ → Type 0
Respected b t n = (g : ℕ) → group_of t n ≡ Some g → Barred b n g → ⊥

-- no team stands in a group that is barred to it
abbrev pub BarsAdmit : Bars → Table → Type 0
BarsAdmit b t = (n : ℕ) → Respected b t n
