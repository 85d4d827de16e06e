-- A set of balls, by the number of the ball's team. Assumes nothing.
use Rattle.std.specs.Prelude.{◌≡◌, ℕ, ◌+◌, ◌*◌, ◌%◌, ◌≤◌, Bool, true, false, ◌&&◌, List, map, Some, None, Option, nat_lt, slice_index_or, slice_set}
use Rattle.std.specs.List.{range_with_len}
use Rattle.shapes.specs.declared.Shape.{Shape}
use Rattle.shapes.specs.Counting.{count_below}
use Rattle.shapes.specs.Teams.{pot_of, has_team}
use Rattle.balls.specs.declared.BallSet.{BallSet}

-- whether the ball of a team is in; team numbers end at 95
abbrev pub is_in_set : BallSet → ℕ → Bool
is_in_set s team = nat_lt team 96 && slice_index_or s.inside team false

-- whether the shape has the team, for each team number
unfoldable pub teams_of : Shape → List Bool
teams_of shape = map (has_team shape) (range_with_len 0 96)

-- the balls of a shape's teams, and no others
abbrev pub of_shape : Shape → BallSet
of_shape shape = record { inside = teams_of shape }

-- every ball but that of a team
abbrev pub without : BallSet → ℕ → BallSet
without s team = record { inside = slice_set s.inside team false }

-- the ball of a pot is in
abbrev pub has_ball : BallSet → ℕ → ℕ → Bool
has_ball s pot ball = is_in_set s (16 * pot + ball)

-- how many of the first n balls of a pot are in
abbrev pub count_first : BallSet → ℕ → ℕ → ℕ
count_first s pot n = count_below (has_ball s pot) n

-- how many balls of a pot are in; it never has more than 16
abbrev pub count_in : BallSet → ℕ → ℕ
count_in s pot = count_first s pot 16

-- how many lower balls of the team's own pot are in
abbrev pub lower_in : BallSet → ℕ → ℕ
lower_in s team = count_first s (pot_of team) (team % 16)

-- the ball is in, is of the pot, and has exactly so many lower balls of that pot still in
pub record HasLower (s : BallSet) (pot lower team : ℕ) : Type 0 where
  pub is_in : is_in_set s team ≡ true
  pub of_pot : pot_of team ≡ pot
  pub has_lower : lower_in s team ≡ lower

-- such a ball, or none where no more than so many balls of the pot are in
abbrev pub WithLower : BallSet → ℕ → ℕ → Option ℕ → Type 0
WithLower s pot lower (Some team) = HasLower s pot lower team
WithLower s pot lower None = count_in s pot ≤ lower
