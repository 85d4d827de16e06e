-- Laws of a set of balls.
use Rattle.std.proofs.Common.{◌≡◌, ℕ, zero, suc, ◌+◌, ◌*◌, ◌%◌, ◌<◌, Bool, true, false, ◌&&◌, ltb, List, [], ◌∷◌, get_or, set, sym, refl, ap, ◌∙◌, inl, inr, arith}
use Rattle.std.proofs.lemmas.List.FromFn.{get_or-map-range_with_len}
use Rattle.std.proofs.lemmas.List.{get_or-set_other}
use Rattle.std.proofs.lemmas.Bool.{and_parts, and_right, cases_Bool, ltb-true}
use Rattle.shapes.proofs.Counts as counts
use Rattle.shapes.specs.declared.Shape.{Shape}
use Rattle.shapes.specs.Teams.{balls_of, has_team, pot_of}
use Rattle.balls.specs.Sets.{HasLower, count_first, count_in, has_ball, is_in_set, lower_in, of_shape, teams_of, without}
use Rattle.balls.specs.declared.BallSet.{BallSet}

-- team numbers end at 95
pub in_below : (s : BallSet) (team : ℕ) → is_in_set s team ≡ true → team < 96
in_below s team e = ltb-true team 96 (and_parts (ltb team 96) (get_or s.inside team false) e).0

under : (x y z : Bool) → (x ≡ true → z ≡ (x && y)) → (x && z) ≡ (x && y)
under true y z h = h refl
under false y z h = refl

-- a shape's balls are those of its teams
pub in_shape : (shape : Shape) (team : ℕ) → is_in_set (of_shape shape) team ≡ has_team shape team
unfolding teams_of
in_shape shape team = under (ltb team 96) (ltb (team % 16) (balls_of shape (pot_of team))) (get_or (teams_of shape) team false) (λ e. get_or-map-range_with_len (has_team shape) 0 96 team team false (ltb-true team 96 e) (omega arith))

cleared : (flags : List Bool) (i : ℕ) → get_or (set flags i false) i false ≡ false
cleared [] i = refl
cleared (b ∷ flags) zero = refl
cleared (b ∷ flags) (suc i) = cleared flags i

-- the ball that was taken out is not in
pub without_same : (s : BallSet) (team : ℕ) → is_in_set (without s team) team ≡ false
without_same s team = and_right (ltb team 96) _ (cleared s.inside team)

-- every other is in where it was
pub without_other : (s : BallSet) (team other : ℕ) → (other ≡ team → ⊥) → is_in_set (without s team) other ≡ is_in_set s other
without_other s team other ne = ap (λ (b : Bool). ltb other 96 && b) (get_or-set_other s.inside team other false false ne)

-- a team by its pot and its ball
at_pot : (s : BallSet) (pot team : ℕ) → pot_of team ≡ pot → is_in_set s team ≡ is_in_set s (16 * pot + team % 16)
at_pot s pot team e = let q : team ≡ 16 * pot + team % 16 = omega arith in ap (is_in_set s) q

-- the lower balls of a ball of the pot
pub lower_at : (s : BallSet) (pot n : ℕ) → n < 16 → lower_in s (16 * pot + n) ≡ count_first s pot n
lower_at s pot n h =
    let p : pot_of (16 * pot + n) ≡ pot = omega arith in
    let b : (16 * pot + n) % 16 ≡ n = omega arith in
    ap (λ (q : ℕ). count_first s q ((16 * pot + n) % 16)) p ∙ ap (count_first s pot) b

lower_at_pot : (s : BallSet) (pot team : ℕ) → pot_of team ≡ pot → lower_in s team ≡ count_first s pot (team % 16)
lower_at_pot s pot team e = ap (λ (p : ℕ). count_first s p (team % 16)) e

-- where a pot counts no ball, none of it is in
pub none_of_pot : (s : BallSet) (pot team : ℕ) → count_in s pot ≡ 0 → pot_of team ≡ pot → is_in_set s team ≡ false
none_of_pot s pot team none e = elim (cases_Bool (is_in_set s team)) [
  | inl there ↦ absurd (let r = counts.count_past (has_ball s pot) (team % 16) 16 (omega arith) (sym (at_pot s pot team e) ∙ there) in omega arith)
  | inr out ↦ out
]

-- and where none of it is in, it counts none
pub count_zero : (s : BallSet) (pot : ℕ) → ((team : ℕ) → pot_of team ≡ pot → is_in_set s team ≡ false) → count_in s pot ≡ 0
count_zero s pot out = counts.count_zero (has_ball s pot) 16 (λ m h. out (16 * pot + m) (omega arith))

-- a pot has one ball at most with so many lower balls in
pub lower_once : (s : BallSet) (pot lower one two : ℕ) → HasLower s pot lower one → HasLower s pot lower two → one ≡ two
lower_once s pot lower one two a b =
    let ball = counts.count_once (has_ball s pot) (one % 16) (two % 16)
    (sym (at_pot s pot one a.of_pot) ∙ a.is_in)
    (sym (at_pot s pot two b.of_pot) ∙ b.is_in)
    (sym (lower_at_pot s pot one a.of_pot) ∙ a.has_lower ∙ sym b.has_lower ∙ lower_at_pot s pot two b.of_pot) in
    let p = a.of_pot in let q = b.of_pot in omega arith
