-- The shape of a draw, and the numbers of its teams. Assumes nothing.
use Rattle.std.specs.Prelude.{ℕ, ◌/◌, ◌%◌, ◌<◌, ◌≤◌, Bool, cond, ◌&&◌, Some, None, Option, nat_le, nat_lt}
use Rattle.shapes.specs.declared.Shape.{Shape}
use Rattle.shapes.specs.Counting.{count_below}

-- a draw has 1 to 16 groups and 1 to 6 pots
abbrev pub Sized : ℕ → ℕ → Type 0
Sized groups pots = ((1 ≤ groups) × (groups ≤ 16)) × ((1 ≤ pots) × (pots ≤ 6))

abbrev pub sized : ℕ → ℕ → Bool
sized groups pots = (nat_le 1 groups && nat_le groups 16) && (nat_le 1 pots && nat_le pots 6)

abbrev pub shape_of : ℕ → ℕ → Option Shape
shape_of groups pots = cond (sized groups pots) (Some (record { groups = groups; pots = pots })) None

-- the pot of a team, by its number
abbrev pub pot_of : ℕ → ℕ
pot_of n = n / 16

-- how many balls a pot has: one for each group, and none past the last pot
abbrev pub balls_of : Shape → ℕ → ℕ
balls_of s pot = cond (nat_lt pot s.pots) s.groups 0

-- a team's number is 16 times its pot, and its ball; balls count from 0
abbrev pub HasTeam : Shape → ℕ → Type 0
HasTeam s n = (n < 96) × (n % 16 < balls_of s (n / 16))

abbrev pub has_team : Shape → ℕ → Bool
has_team s n = nat_lt n 96 && nat_lt (n % 16) (balls_of s (n / 16))

-- which groups take a team of a pot: each group of the shape, of each of its pots
abbrev pub Takes : Shape → ℕ → ℕ → Type 0
Takes s pot group = (pot < s.pots) × (group < s.groups)

-- how many teams the shape has
abbrev pub team_count : Shape → ℕ
team_count s = count_below (has_team s) 96
