-- A shape of a draw has as many teams as groups times pots: counted out for each of the shapes that there are.
use Rattle.std.proofs.Common.{◌≡◌, ℕ, zero, suc, ◌*◌, ◌<◌, Bool, true, ◌&&◌, eqb, refl, arith}
use Rattle.std.proofs.lemmas.Bool.{eqb-true}
use Rattle.std.proofs.lemmas.Bool.Decides.{Decides-below_and}
use Rattle.shapes.specs.declared.Shape.{Shape}
use Rattle.shapes.specs.Counting.{count_below}
use Rattle.shapes.specs.Teams.{Sized, team_count}

every : (ℕ → Bool) → ℕ → Bool
every p zero = true
every p (suc n) = p n && every p n

every_at : (p : ℕ → Bool) (n k : ℕ) → every p n ≡ true → k < n → p k ≡ true
unfolding every
every_at p n k h l = (Decides-below_and p (λ i. p i ≡ true) (every p) (λ i. ((λ e. e), (λ e. e))) refl (λ _. refl) n).0 h k l

agrees : ℕ → ℕ → Bool
agrees g p = eqb (team_count (record { groups = g; pots = p })) (g * p)

all_agree : every (λ g. every (agrees g) 7) 17 ≡ true
unfolding every agrees count_below
all_agree = refl

pub team_product : (s : Shape) → Sized s.groups s.pots → team_count s ≡ s.groups * s.pots
unfolding agrees
team_product s z =
    eqb-true _ _ (every_at (agrees s.groups) 7 s.pots (every_at (λ g. every (agrees g) 7) 17 s.groups all_agree (omega arith)) (omega arith))
