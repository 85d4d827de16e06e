-- What a sheet record tells of a team's number. Assumes nothing.
use Rattle.std.specs.Prelude.{ℕ, cond, List, [], ◌∷◌, Some, None, Option, ◌==◌, nat_lt, slice_index_or}
use Rattle.sheets.specs.declared.sheet.Sheet.{Sheet}
use Rattle.sheets.specs.declared.sheet.Entrant.{Entrant}

-- association 0 in a T says that the team has none
abbrev pub entrant : ℕ → List ℕ → Entrant
entrant a c = record { association = cond (a == 0) None (Some a); code = c }

-- the code of a number that has no T: ---
abbrev pub dashes : List ℕ
dashes = 45 ∷ 45 ∷ 45 ∷ []

abbrev pub code_in : Option Entrant → List ℕ
code_in (Some e) = e.code
code_in None = dashes

abbrev pub association_in : Option Entrant → Option ℕ
association_in (Some e) = e.association
association_in None = None

-- the code of a number, --- where it has no T
abbrev pub code_of : Sheet → ℕ → List ℕ
code_of s n = cond (nat_lt n 96) (code_in (slice_index_or s.teams n None)) dashes

abbrev pub association_of : Sheet → ℕ → Option ℕ
association_of s n = cond (nat_lt n 96) (association_in (slice_index_or s.teams n None)) None
