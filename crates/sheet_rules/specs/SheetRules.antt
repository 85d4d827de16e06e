-- Which tables a sheet record admits, by its pairs, caps and bars. Assumes nothing.
use Rattle.std.specs.Prelude.{◌≡◌, ℕ, ◌≤◌, cond, ◌&&◌, List, take, Some, None, Option, nat_lt, slice_index_or}
use Rattle.shapes.specs.Counting.{count_below}
use Rattle.tables.specs.Tables.{group_of}
use Rattle.tables.specs.declared.table.Table.{Table}
use Rattle.rules.specs.declared.both.Both.{Both}
use Rattle.pairs.specs.Apart.{Apart}
use Rattle.pairs.specs.Listed.{PairsAdmit}
use Rattle.pairs.specs.declared.pairs.Pairs.{Pairs}
use Rattle.caps.specs.Caps.{CapsAdmit, is_this, stands_in}
use Rattle.caps.specs.declared.caps.Caps.{Caps}
use Rattle.bars.specs.Barred.{BarredBy, BarsAdmit}
use Rattle.bars.specs.declared.Bars.{Bars}
use Rattle.sheets.specs.Entrants.{association_of}
use Rattle.sheets.specs.declared.sheet.Sheet.{Sheet}

-- the pairs of a record: the first `listed` of its places
abbrev pub sheet_pairs : Sheet → List (ℕ × ℕ)
sheet_pairs s = take s.listed s.pairs

-- how many teams of the association stand in the group; team numbers end at 95
abbrev pub sheet_mates : Sheet → Table → ℕ → ℕ → ℕ
sheet_mates s t a g = count_below (λ n. is_this (association_of s n) a && stands_in t n g) 96

-- the cap of an association, if it has one; association numbers end at 64
abbrev pub sheet_cap : Sheet → ℕ → Option ℕ
sheet_cap s a = cond (nat_lt a 65) (slice_index_or s.caps a None) None

-- in each group, the teams of a capped association number at most its cap
abbrev pub CapsKept : Sheet → Table → Type 0
CapsKept s t = (a g most : ℕ) → sheet_cap s a ≡ Some most → sheet_mates s t a g ≤ most

-- no placed team stands in a group that is barred to it
abbrev pub BarsKept : Sheet → Table → Type 0
BarsKept s t = (n g : ℕ) → group_of t n ≡ Some g → BarredBy (slice_index_or s.bars n None) g → ⊥

-- the tables that a sheet record admits
pub record SheetAdmits (s : Sheet) (t : Table) : Type 0 where
  pub pairs : Apart (sheet_pairs s) t
  pub caps : CapsKept s t
  pub bars : BarsKept s t

-- the tables that Both of pairs and of Both of caps and bars admits
abbrev pub JoinedAdmit : Both Pairs (Both Caps Bars) → Table → Type 0
JoinedAdmit r t = PairsAdmit r.first t × (CapsAdmit r.second.first t × BarsAdmit r.second.second t)
