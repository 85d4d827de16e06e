-- Laws of the balls of a pot.
use Rattle.std.proofs.Common.{ℕ, ◌+◌, ◌*◌, ◌<◌, ◌≤◌, Decides, arith}
use Rattle.std.proofs.lemmas.Bool.Decides.{nat_tests}
use Rattle.shapes.specs.declared.Shape.{Shape}
use Rattle.shapes.specs.Teams.{HasTeam, Sized, balls_of, has_team, pot_of}

-- only a pot of the shape has balls, and their numbers are below 96
pub ball_number : (s : Shape) (pot ball : ℕ) → Sized s.groups s.pots → ball < balls_of s pot → 16 * pot + ball < 96
ball_number s pot ball z h = grind (arith, nat_tests)

pub balls_few : (s : Shape) (pot : ℕ) → Sized s.groups s.pots → balls_of s pot ≤ 16
balls_few s pot z = grind (arith, nat_tests)

pub decides_team : (s : Shape) (team : ℕ) → Decides (has_team s team) (HasTeam s team)
decides_team s team = (λ h. (grind (arith, nat_tests), grind (arith, nat_tests)), λ p. grind (arith, nat_tests))

-- a team's pot is one of the shape's
pub team_pot : (s : Shape) (team : ℕ) → HasTeam s team → pot_of team < s.pots
team_pot s team p = grind (arith, nat_tests)
