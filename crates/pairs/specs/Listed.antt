-- The pairs rule by its list. Assumes nothing.
use Rattle.std.specs.Prelude.{◌≡◌, ℕ, ◌<◌, List, length, take, Some, None, Option}
use Rattle.tables.specs.declared.table.Table.{Table}
use Rattle.pairs.specs.declared.pairs.Pairs.{Pairs}
use Rattle.pairs.specs.Apart.{Apart}

-- the pairs that a rule lists, in their order
abbrev pub pairs_of : Pairs → List (ℕ × ℕ)
pairs_of p = take p.listed p.places

-- the tables that it admits
abbrev pub PairsAdmit : Pairs → Table → Type 0
PairsAdmit p t = Apart (pairs_of p) t

-- a rule lists just these pairs; there is none for more than 64
abbrev pub Listing : List (ℕ × ℕ) → Option Pairs → Type 0
Listing pairs (Some p) = pairs_of p ≡ pairs
Listing pairs None = 64 < length pairs
