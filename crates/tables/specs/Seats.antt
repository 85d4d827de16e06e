-- What the type of tables holds of its 96 entries, one for each team number: the group of the team, or none. Assumes nothing.
use Rattle.std.specs.Prelude.{◌≡◌, ℕ, ◌<◌, List, length, Some, None, Option, slice_index_or}
use Rattle.shapes.specs.Teams.{pot_of}

-- the entry of a number; a number past the last has none
abbrev pub seat_of : List (Option ℕ) → ℕ → Option ℕ
seat_of s n = slice_index_or s n None

-- there is an entry for each of the numbers 0 to 95
abbrev pub Whole : List (Option ℕ) → Type 0
Whole s = length s ≡ 96

-- two numbers have one group
abbrev pub Shared : List (Option ℕ) → ℕ → ℕ → Type 0
Shared s m n = (g : ℕ) × (seat_of s m ≡ Some g) × (seat_of s n ≡ Some g)

-- a group has at most one team of each pot
abbrev pub OnePerPot : List (Option ℕ) → Type 0
OnePerPot s = (m n : ℕ) → (pot_of m ≡ pot_of n) × Shared s m n → m ≡ n

-- groups are numbered 0 to 15
abbrev pub Lettered : List (Option ℕ) → Type 0
Lettered s = (n g : ℕ) → seat_of s n ≡ Some g → g < 16
