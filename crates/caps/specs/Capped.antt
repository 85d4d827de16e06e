-- What a team counts as under caps. Assumes nothing.
use Rattle.std.specs.Prelude.{◌≡◌, ℕ, Some, None, Option}
use Rattle.tables.specs.Tables.{group_of}
use Rattle.tables.specs.declared.table.Table.{Table}
use Rattle.caps.specs.Caps.{association_of, cap_of}
use Rattle.caps.specs.declared.caps.Caps.{Caps}
use Rattle.caps.specs.declared.mates.Mate.{Mate}

-- its association, its group and the cap, or none where it is not placed, or has no association or one without a cap
abbrev pub MateOf : Caps → Table → ℕ → Option Mate → Type 0
MateOf c t n (Some m) = (association_of c n ≡ Some m.association) × (group_of t n ≡ Some m.group) × (cap_of c m.association ≡ Some m.most)
MateOf c t n None = (a g most : ℕ) → cap_of c a ≡ Some most → association_of c n ≡ Some a → group_of t n ≡ Some g → ⊥
