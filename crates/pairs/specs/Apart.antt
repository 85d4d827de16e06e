-- What listed pairs forbid. Assumes nothing.
use Rattle.std.specs.Prelude.{ℕ, ◌<◌, List, length, slice_index_or}
use Rattle.tables.specs.Tables.{Together}
use Rattle.tables.specs.declared.table.Table.{Table}

-- no listed pair has both its teams in one group
abbrev pub Apart : List (ℕ × ℕ) → Table → Type 0
Apart pairs t = (i : ℕ) → i < length pairs → Together t (slice_index_or pairs i (0, 0)).0 (slice_index_or pairs i (0, 0)).1 → ⊥
