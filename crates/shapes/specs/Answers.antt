-- Exact answers. Assumes nothing.
use Rattle.std.specs.Prelude.{Bool, MatchBool}

-- the answer is yes where P holds, and no where it does not
abbrev pub Exactly : Bool → Type 0 → Type 0
Exactly r P = MatchBool r P (P → ⊥)
