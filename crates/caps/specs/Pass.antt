-- How far a pass over the teams has come. Assumes nothing.
use Rattle.std.specs.Prelude.{◌≡◌, ℕ, ◌+◌, ◌<◌, ◌≤◌, List, [], length, Some, slice_index, slice_index_or, slice_set}
use Rattle.shapes.specs.Counting.{count_below}
use Rattle.tables.specs.declared.table.Table.{Table}
use Rattle.caps.specs.declared.caps.Caps.{Caps}
use Rattle.caps.specs.Caps.{cap_of, is_mate}

-- the entry of an association and a group
abbrev pub entry_at : List (List ℕ) → ℕ → ℕ → ℕ
entry_at counts a g = slice_index (slice_index_or counts a []) g

-- one more there
abbrev pub with_mate : List (List ℕ) → ℕ → ℕ → List (List ℕ)
with_mate counts a g = slice_set counts a (slice_set (slice_index_or counts a []) g (entry_at counts a g + 1))

-- the teams below n are counted, for each association that has a cap, and are no more than it in any group
pub record Counted (c : Caps) (t : Table) (counts : List (List ℕ)) (n : ℕ) : Type 0 where
  pub rows : (a : ℕ) → a < 65 → length (slice_index_or counts a []) ≡ 16
  pub exact : (a g most : ℕ) → cap_of c a ≡ Some most → entry_at counts a g ≡ count_below (is_mate c t a g) n
  pub within : (a g most : ℕ) → cap_of c a ≡ Some most → count_below (is_mate c t a g) n ≤ most
