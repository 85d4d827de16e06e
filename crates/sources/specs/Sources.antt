-- What a ball source does, in terms of which balls are in. Assumes nothing.
use Rattle.std.specs.Prelude.{◌≡◌, ℕ, ◌↔◌, ◌≢◌}
use Rattle.shapes.specs.Teams.{pot_of}

module _ {S : Type 0} (holds : S → ℕ → Type 0) where
  -- no ball of the pot is in
  abbrev pub NoneIn : S → ℕ → Type 0
  NoneIn s pot = (team : ℕ) → pot_of team ≡ pot → holds s team → ⊥

  -- the source gave a ball of the pot: that ball was in and is gone, and every other is in exactly where it was
  pub record Gave (s : S) (pot ball : ℕ) (after : S) : Type 0 where
    pub of_pot : pot_of ball ≡ pot
    pub was_in : holds s ball
    pub gone : holds after ball → ⊥
    pub others : (team : ℕ) → (team ≢ ball) → holds after team ↔ holds s team
