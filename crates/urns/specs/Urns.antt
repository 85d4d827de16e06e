-- Which ball an urn gives. Assumes nothing.
use Rattle.std.specs.Prelude.{◌≡◌, ℕ, ◌%◌, true, ◌↔◌, Some, None, Option, ◌≢◌}
use Rattle.shapes.specs.declared.Shape.{Shape}
use Rattle.shapes.specs.Teams.{HasTeam, pot_of}
use Rattle.balls.specs.declared.BallSet.{BallSet}
use Rattle.balls.specs.Sets.{HasLower, count_in, is_in_set, without}
use Rattle.sources.specs.Sources.{NoneIn}
use Rattle.urns.specs.SplitMix.{mixed, stepped}
use Rattle.urns.specs.declared.Urn.{Urn}

-- the ball of a team is in
abbrev pub UrnHolds : Urn → ℕ → Type 0
UrnHolds u team = is_in_set u.balls team ≡ true

-- a number picks a ball of a pot: the one that has as many lower balls of the pot in as the number leaves when it is
-- divided by how many are in. It picks none only where none is in
abbrev pub Picked : BallSet → ℕ → ℕ → Option ℕ → Type 0
Picked s pot number (Some ball) = HasLower s pot (number % count_in s pot) ball
Picked s pot number None = (team : ℕ) → pot_of team ≡ pot → is_in_set s team ≢ true

-- the urn after it gave a ball: one number on, and without that ball
abbrev pub after_giving : Urn → ℕ → Urn
after_giving u ball = record { number = stepped u.number; balls = without u.balls ball }

-- the urn gave a ball of the pot, the one that its next number picks
pub record UrnGave (u : Urn) (pot ball : ℕ) (after : Urn) : Type 0 where
  pub picked : HasLower u.balls pot (mixed (stepped u.number) % count_in u.balls pot) ball
  pub left : after ≡ after_giving u ball

-- asked for a ball of the pot, the urn gave this answer and became that urn: where it refuses, it is as it was
abbrev pub UrnAnswers : Urn → ℕ → Option ℕ → Urn → Type 0
UrnAnswers u pot (Some ball) after = UrnGave u pot ball after
UrnAnswers u pot None after = NoneIn UrnHolds u pot × (after ≡ u)

-- an urn starts with the number of its seed and every ball of its shape
pub record Started (shape : Shape) (seed : ℕ) (u : Urn) : Type 0 where
  pub number : u.number ≡ seed
  pub teams : (team : ℕ) → UrnHolds u team ↔ HasTeam shape team

-- an urn leaves no choice: what it answers and what it becomes are settled by the urn and the pot
abbrev pub Decided : Type 0
Decided = (u : Urn) (pot : ℕ) (one two : Option ℕ) (after1 after2 : Urn) → UrnAnswers u pot one after1 → UrnAnswers u pot two after2 → (one ≡ two) × (after1 ≡ after2)
