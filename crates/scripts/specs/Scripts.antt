-- Balls that come in orders written down, one for each pot. Assumes nothing.
use Rattle.std.specs.Prelude.{◌≡◌, ℕ, ◌%◌, ◌<◌, ◌≤◌, true, ◌↔◌, List, replicate, IsSomeAnd, Some, None, Option, ◌≢◌, slice_index, slice_index_or}
use Rattle.shapes.specs.declared.Shape.{Shape}
use Rattle.shapes.specs.Teams.{HasTeam, Sized, balls_of, pot_of}
use Rattle.orders.specs.Orders.{OrderOf}
use Rattle.balls.specs.declared.BallSet.{BallSet}
use Rattle.balls.specs.Sets.{is_in_set, of_shape, without}
use Rattle.sources.specs.Sources.{NoneIn}
use Rattle.scripts.specs.declared.Script.{Script}

-- the sixteen bytes of an order; where there is none, no byte is a ball
abbrev pub row_of : Option (List ℕ) → List ℕ
row_of (Some order) = order
row_of None = replicate 16 255

abbrev pub order_of : Script → ℕ → List ℕ
order_of s pot = row_of (slice_index_or s.orders pot None)

-- Which ball comes

-- at a place of a pot's row stands the ball of a team: a byte of 16 or more is no ball
pub record Stands (row : List ℕ) (pot place team : ℕ) : Type 0 where
  pub within : place < 16
  pub of_pot : pot_of team ≡ pot
  pub ball : slice_index row place ≡ team % 16

-- the team's ball is the first of its pot's row that is in
pub record FirstOf (row : List ℕ) (balls : BallSet) (pot team : ℕ) : Type 0 where
  pub place : ℕ
  pub at : Stands row pot place team
  pub is_in : is_in_set balls team ≡ true
  pub none_before : (earlier other : ℕ) → earlier < place → Stands row pot earlier other → is_in_set balls other ≢ true

-- no ball of the row is in
abbrev pub NoneOf : List ℕ → BallSet → ℕ → Type 0
NoneOf row balls pot = (place team : ℕ) → Stands row pot place team → is_in_set balls team ≢ true

abbrev pub At : Script → ℕ → ℕ → ℕ → Type 0
At s pot place team = Stands (order_of s pot) pot place team

abbrev pub FirstIn : Script → ℕ → ℕ → Type 0
FirstIn s pot team = FirstOf (order_of s pot) s.balls pot team

-- the ball is in, and can come: one that the order of its pot does not name never does
abbrev pub ScriptHolds : Script → ℕ → Type 0
ScriptHolds s team = (is_in_set s.balls team ≡ true) × ((place : ℕ) × At s (pot_of team) place team)

-- the same orders, and every ball but that of a team
abbrev pub without_ball : Script → ℕ → Script
without_ball s team = record s { balls = without s.balls team }

-- asked for a ball of a pot, it gives the first that is in, or none where none is
abbrev pub ScriptAnswers : Script → ℕ → Option ℕ → Script → Type 0
ScriptAnswers s pot (Some team) after = FirstIn s pot team × (after ≡ without_ball s team)
ScriptAnswers s pot None after = NoneIn ScriptHolds s pot × (after ≡ s)

-- a script that is asked has one answer, and becomes one script
abbrev pub Decided : Type 0
Decided =
    (s : Script) (pot : ℕ) (one two : Option ℕ) (after_one after_two : Script)
    → ScriptAnswers s pot one after_one → ScriptAnswers s pot two after_two
    → (one ≡ two) × (after_one ≡ after_two)

-- How a script begins

-- there is an order, and it is one of so many balls
pub record HasOrder (balls : ℕ) (order : Option (List ℕ)) : Type 0 where
  pub few : balls ≤ 16
  pub is_order : IsSomeAnd order (OrderOf balls)

-- the shape is one of a draw, and each of its pots has an order of its balls
pub record Scripted (shape : Shape) (orders : List (Option (List ℕ))) : Type 0 where
  pub sized : Sized shape.groups shape.pots
  pub ordered : (pot : ℕ) → pot < shape.pots → HasOrder (balls_of shape pot) (slice_index_or orders pot None)

-- these orders, and each ball of the shape
abbrev pub script_of : Shape → List (Option (List ℕ)) → Script
script_of shape orders = record { orders = orders; balls = of_shape shape }

-- that script exactly where the shape is scripted
abbrev pub Made : Shape → List (Option (List ℕ)) → Option Script → Type 0
Made shape orders (Some s) = Scripted shape orders × (s ≡ script_of shape orders)
Made shape orders None = Scripted shape orders → ⊥

-- it holds the balls of the shape's teams, and no others
abbrev pub HoldsTeams : Shape → Script → Type 0
HoldsTeams shape s = (team : ℕ) → ScriptHolds s team ↔ HasTeam shape team
