-- Balls in the order in which their numbers were typed. Assumes nothing.
use Rattle.std.specs.Prelude.{◌≡◌, ℕ, ◌<◌, Bool, true, false, cond, List, length, is_some, Some, None, Option, ◌≢◌, nat_lt, slice_index, slice_index_or, slice_set}
use Rattle.shapes.specs.Teams.{pot_of}
use Rattle.sources.specs.Sources.{NoneIn}
use Rattle.second_office.specs.declared.typed.Typed.{Typed}

-- the place at which the number of a ball that is in was typed first; team numbers end at 95
abbrev pub place_of : Typed → ℕ → Option ℕ
place_of s team = cond (nat_lt team 96) (slice_index_or s.places team None) None

-- the ball of a team is in
abbrev pub TypedHolds : Typed → ℕ → Type 0
TypedHolds s team = is_some (place_of s team) ≡ true

-- a number does not stand in the first places of a list
abbrev pub NotAmong : List ℕ → ℕ → ℕ → Type 0
NotAmong numbers count n = (i : ℕ) → i < count → slice_index numbers i ≢ n

-- where a number stands first among the first places of a list; nowhere, where it is not among them
abbrev pub FirstPlace : List ℕ → ℕ → ℕ → Option ℕ → Type 0
FirstPlace numbers count n (Some place) = (place < count) × (slice_index numbers place ≡ n) × NotAmong numbers place n
FirstPlace numbers count n None = NotAmong numbers count n

-- the balls that are in are those of the teams whose numbers were typed, each from the place where it stands first
abbrev pub TypedFrom : List ℕ → Typed → Type 0
TypedFrom numbers s = (team : ℕ) → team < 96 → FirstPlace numbers (length numbers) team (place_of s team)

-- a place comes before another; any place comes before none
abbrev pub earlier : Option ℕ → Option ℕ → Bool
earlier None other = false
earlier (Some place) None = true
earlier (Some place) (Some other) = nat_lt place other

-- the ball is of the pot and in, and no ball of the pot that is in was typed before it
pub record Foremost (s : Typed) (pot ball : ℕ) : Type 0 where
  pub team : ball < 96
  pub of_pot : pot_of ball ≡ pot
  pub is_in : TypedHolds s ball
  pub foremost : (other : ℕ) → pot_of other ≡ pot → earlier (place_of s other) (place_of s ball) ≡ false

-- every ball but that of a team
abbrev pub without : Typed → ℕ → Typed
without s team = record { places = slice_set s.places team None }

-- the ball of a pot that comes next, or none where none is in
abbrev pub FirstOf : Typed → ℕ → Option ℕ → Type 0
FirstOf s pot (Some ball) = Foremost s pot ball
FirstOf s pot None = NoneIn TypedHolds s pot

-- asked for a ball of the pot, the source gave this answer and became that source: it gives the ball that was typed
-- first, and where it refuses, it is as it was
abbrev pub TypedAnswers : Typed → ℕ → Option ℕ → Typed → Type 0
TypedAnswers s pot (Some ball) after = Foremost s pot ball × (after ≡ without s ball)
TypedAnswers s pot None after = NoneIn TypedHolds s pot × (after ≡ s)
