-- The tests of a record, and the conditions that they decide.
use Rattle.std.proofs.Common.{◌≡◌, ℕ, ◌+◌, ◌*◌, ◌<◌, Bool, true, false, cond, not, ◌&&◌, ◌||◌, eqb, ltb, ◌⊎◌, List, length, get_or, is_some, Some, None, Decides, Option, sym, refl, ap, ◌∙◌, inl, inr, ⊎_elim, arith}
use Rattle.std.proofs.lemmas.Bool.{false_from_ne_true, not_from_false, true≢false, cases_lt, cond-true, lt-ltb}
use Rattle.std.proofs.lemmas.Bool.Decides.{nat_tests, Decides-at, Decides-like, Decides-not, Decides-and, Decides-ltb, Decides-eqb}
use Rattle.shapes.specs.declared.Shape.{Shape}
use Rattle.shapes.specs.Teams.{Sized, balls_of, HasTeam, has_team}
use Rattle.shapes.proofs.Balls.{ball_number, balls_few, decides_team}
use Rattle.orders.proofs.Scans.{decides_all, decides_any}
use Rattle.orders.proofs.Deciding.{decides_order}
use Rattle.records.specs.declared.item.Record.{Record}
use Rattle.records.specs.declared.item.Record.TheVariants.{Shape as ShapeRecord, Team, Pair, Cap, Bars, Seed, Script, End}
use Rattle.sheets.specs.Entrants.{code_in, association_in, code_of, association_of}
use Rattle.sheets.specs.Taking.{is_shape, fits, repeated, crowded, ordered, bars_fit, named, scripted, scripted_in, all_named, any_script, all_scripts, has_source, is_whole}
use Rattle.reading.specs.Format.{said, found, team_in, cap_in, bars_in, seed_in, script_in, pairs_in, Fits, Fresh, Room, Ordered, IsShape, Whole, FromUrn, FromScripts}
use Rattle.reading.proofs.Saying.{get_or_each}

-- nothing was found
pub decides_none : {X : Type 0} (o : Option X) → Decides (not (is_some o)) (o ≡ None)
decides_none (Some x) = (λ h. cc, λ e. cc)
decides_none None = (λ h. refl, λ e. refl)

decides_some : {X : Type 0} (o : Option X) → Decides (is_some o) (o ≡ None → ⊥)
decides_some (Some x) = (λ h e. cc, λ n. refl)
decides_some None = (λ h. cc, λ n. absurd (n refl))

decides_yes : Decides true (Unit {0})
decides_yes = (λ h. tt, λ u. refl)

-- what the sheet record holds is what the records say
module _ (sh : Shape) (rs : List Record) where
  pub team_said : (n : ℕ) → n < 96 → get_or (said sh rs).teams n None ≡ found (team_in n) rs
  unfolding said
  team_said n h = get_or_each 96 (λ k. found (team_in k) rs) n None h

  pub code_said : (n : ℕ) → n < 96 → code_of (said sh rs) n ≡ code_in (found (team_in n) rs)
  code_said n h = cond-true _ _ _ (lt-ltb n 96 h) ∙ ap code_in (team_said n h)

  pub association_said : (n : ℕ) → n < 96 → association_of (said sh rs) n ≡ association_in (found (team_in n) rs)
  association_said n h = cond-true _ _ _ (lt-ltb n 96 h) ∙ ap association_in (team_said n h)

  cap_said : (n : ℕ) → n < 65 → get_or (said sh rs).caps n None ≡ found (cap_in n) rs
  unfolding said
  cap_said n h = get_or_each 65 (λ k. found (cap_in k) rs) n None h

  bars_said : (n : ℕ) → n < 96 → get_or (said sh rs).bars n None ≡ found (bars_in n) rs
  unfolding said
  bars_said n h = get_or_each 96 (λ k. found (bars_in k) rs) n None h

  seed_said : (said sh rs).seed ≡ found seed_in rs
  unfolding said
  seed_said = refl

  script_said : (n : ℕ) → n < 6 → get_or (said sh rs).scripts n None ≡ found (script_in n) rs
  unfolding said
  script_said n h = get_or_each 6 (λ k. found (script_in k) rs) n None h

  listed_said : (said sh rs).listed ≡ length (pairs_in rs)
  unfolding said
  listed_said = refl

  pub shape_said : (said sh rs).shape ≡ sh
  unfolding said
  shape_said = refl

-- one test after the other
is_shape_lem : (r : Record) → is_shape r ≡ true → IsShape r
is_shape_lem (ShapeRecord g p) h = (g, p, refl)
is_shape_lem (Team pot ball a c) h = cc
is_shape_lem (Pair a b) h = cc
is_shape_lem (Cap a m) h = cc
is_shape_lem (Bars n g) h = cc
is_shape_lem (Seed x) h = cc
is_shape_lem (Script pot o) h = cc
is_shape_lem End h = cc

pub decides_shape : (r : Record) → Decides (is_shape r) (IsShape r)
decides_shape r = (is_shape_lem r, λ w. ap is_shape w.2)

team_from : (sh : Shape) (pot ball a : ℕ) (c : List ℕ) → fits sh (Team pot ball a c) ≡ true → Fits sh (Team pot ball a c)
team_from sh pot ball a c h = grind (arith, nat_tests)

team_to : (sh : Shape) (pot ball a : ℕ) (c : List ℕ) → Sized sh.groups sh.pots → Fits sh (Team pot ball a c) → fits sh (Team pot ball a c) ≡ true
team_to sh pot ball a c z f = grind (arith, nat_tests)

pub decides_fits : (sh : Shape) (r : Record) → Sized sh.groups sh.pots → Decides (fits sh r) (Fits sh r)
decides_fits sh (ShapeRecord g p) z = decides_yes
decides_fits sh (Team pot ball a c) z = (team_from sh pot ball a c, team_to sh pot ball a c z)
decides_fits sh (Pair a b) z =
    Decides-like _ (λ q. (q.0, q.1.0, q.1.1)) (λ q. (q.0, (q.1, q.2)))
    (Decides-and (not (eqb a b)) (has_team sh a && has_team sh b) (Decides-not (eqb a b) (Decides-eqb a b)) (Decides-and (has_team sh a) (has_team sh b) (decides_team sh a) (decides_team sh b)))
decides_fits sh (Cap a m) z = (λ h. grind (arith, nat_tests), λ p. grind (arith, nat_tests))
decides_fits sh (Bars n g) z =
    Decides-and (has_team sh n) (bars_fit g sh.groups) (decides_team sh n) ((λ h. grind (arith, nat_tests)), λ p. grind (arith, nat_tests))
decides_fits sh (Seed x) z = decides_yes
decides_fits sh (Script pot o) z = (λ h. grind (arith, nat_tests), λ p. grind (arith, nat_tests))
decides_fits sh End z = decides_yes

pub decides_fresh : (sh : Shape) (rs : List Record) (r : Record) → Sized sh.groups sh.pots → Fits sh r → Decides (not (repeated (said sh rs) r)) (Fresh rs r)
decides_fresh sh rs (ShapeRecord g p) z f = decides_yes
decides_fresh sh rs (Team pot ball a c) z f =
    Decides-at _ _ (ap (λ o. not (is_some o)) (team_said sh rs (16 * pot + ball) (ball_number sh pot ball z f.0))) (decides_none (found (team_in (16 * pot + ball)) rs))
decides_fresh sh rs (Pair a b) z f = decides_yes
decides_fresh sh rs (Cap a m) z f = Decides-at _ _ (ap (λ o. not (is_some o)) (cap_said sh rs a (omega arith))) (decides_none (found (cap_in a) rs))
decides_fresh sh rs (Bars n g) z f = Decides-at _ _ (ap (λ o. not (is_some o)) (bars_said sh rs n (omega arith))) (decides_none (found (bars_in n) rs))
decides_fresh sh rs (Seed x) z f = Decides-at _ _ (ap (λ o. not (is_some o)) (seed_said sh rs)) (decides_none (found seed_in rs))
decides_fresh sh rs (Script pot o) z f = Decides-at _ _ (ap (λ q. not (is_some q)) (script_said sh rs pot (omega arith))) (decides_none (found (script_in pot) rs))
decides_fresh sh rs End z f = decides_yes

pub decides_room : (sh : Shape) (rs : List Record) (r : Record) → Decides (not (crowded (said sh rs) r)) (Room rs r)
decides_room sh rs (ShapeRecord g p) = decides_yes
decides_room sh rs (Team pot ball a c) = decides_yes
decides_room sh rs (Pair a b) = let e = listed_said sh rs in (λ h. grind (arith, nat_tests), λ p. grind (arith, nat_tests))
decides_room sh rs (Cap a m) = decides_yes
decides_room sh rs (Bars n g) = decides_yes
decides_room sh rs (Seed x) = decides_yes
decides_room sh rs (Script pot o) = decides_yes
decides_room sh rs End = decides_yes

pub decides_ordered : (sh : Shape) (r : Record) → Sized sh.groups sh.pots → Decides (ordered sh r) (Ordered sh r)
decides_ordered sh (ShapeRecord g p) z = decides_yes
decides_ordered sh (Team pot ball a c) z = decides_yes
decides_ordered sh (Pair a b) z = decides_yes
decides_ordered sh (Cap a m) z = decides_yes
decides_ordered sh (Bars n g) z = decides_yes
decides_ordered sh (Seed x) z = decides_yes
decides_ordered sh (Script pot o) z = decides_order (balls_of sh pot) o (balls_few sh pot z)
decides_ordered sh End z = decides_yes

-- tests joined
decides_unless : {P Q : Type 0} (x y : Bool) → Decides x P → Decides y Q → Decides (not x || y) (P → Q)
decides_unless true y p q = (λ h _. q.0 h, λ f. q.1 (f (p.0 refl)))
decides_unless false y p q = (λ _ a. absurd (true≢false (sym (p.1 a))), λ _. refl)

-- by whether a seed is there
by_seed : {P Q : Type 0} (o : Option ℕ) (x y : Bool) → Decides x P → Decides y Q
    → Decides (cond (is_some o) x y) (((o ≡ None → ⊥) × P) ⊎ ((o ≡ None) × Q))
by_seed (Some v) x y p q = (
  λ h. inl (λ e. cc, p.0 h),
  λ w. ⊎_elim (λ a. p.1 a.1) (λ b. let k = b.0 in cc) w,
)
by_seed None x y p q = (
  λ h. inr (refl, q.0 h),
  λ w. ⊎_elim (λ a. absurd (a.0 refl)) (λ b. q.1 b.1) w,
)

-- the end
module _ (sh : Shape) (rs : List Record) (z : Sized sh.groups sh.pots) where
  team_there : (n : ℕ) → Decides (named (said sh rs) n) (HasTeam sh n → found (team_in n) rs ≡ None → ⊥)
  team_there n =
      ⊎_elim
      (λ l. decides_unless (has_team (said sh rs).shape n) (is_some (get_or (said sh rs).teams n None))
      (Decides-at _ _ (ap (λ s. has_team s n) (shape_said sh rs)) (decides_team sh n))
      (Decides-at _ _ (ap is_some (team_said sh rs n l)) (decides_some (found (team_in n) rs))))
      (λ g. (λ _ p. absurd (omega arith), λ _. let e = shape_said sh rs in grind (arith, nat_tests)))
      (cases_lt n 96)

  decides_named : Decides (all_named (said sh rs)) ((n : ℕ) → HasTeam sh n → found (team_in n) rs ≡ None → ⊥)
  decides_named =
      Decides-like (all_named (said sh rs)) (λ h n p. h n p.0 p) (λ h n l p. h n p)
      (decides_all (named (said sh rs)) (λ n. HasTeam sh n → found (team_in n) rs ≡ None → ⊥) team_there 96)

  script_there : (pot : ℕ) → pot < 6 → scripted (said sh rs) pot ≡ is_some (found (script_in pot) rs)
  script_there pot l = ap is_some (script_said sh rs pot l)

  decides_no_script : Decides (not (any_script (said sh rs))) ((pot : ℕ) → pot < 6 → found (script_in pot) rs ≡ None)
  decides_no_script =
      let any = decides_any (scripted (said sh rs)) (λ pot. scripted (said sh rs) pot ≡ true) (λ pot. (λ h. h, λ h. h)) 6 in
      Decides-like (not (any_script (said sh rs)))
      (λ h pot l. (decides_none (found (script_in pot) rs)).0 (ap not (sym (script_there pot l)) ∙ not_from_false (scripted (said sh rs) pot) (false_from_ne_true (scripted (said sh rs) pot) (λ t. h (pot, l, t)))))
      (λ h q. true≢false (sym q.2 ∙ script_there q.0 q.1 ∙ ap is_some (h q.0 q.1)))
      (Decides-not (any_script (said sh rs)) any)

  script_in_lem : (pot : ℕ) → Decides (scripted_in (said sh rs) pot) (pot < sh.pots → found (script_in pot) rs ≡ None → ⊥)
  script_in_lem pot =
      ⊎_elim
      (λ l. decides_unless (ltb pot (said sh rs).shape.pots) (scripted (said sh rs) pot)
      (Decides-at _ _ (ap (λ s. ltb pot s.pots) (shape_said sh rs)) (Decides-ltb pot sh.pots))
      (Decides-at _ _ (script_there pot l) (decides_some (found (script_in pot) rs))))
      (λ g. (λ _ p. absurd (omega arith), λ _. let e = shape_said sh rs in grind (arith, nat_tests)))
      (cases_lt pot 6)

  decides_scripts : Decides (all_scripts (said sh rs)) ((pot : ℕ) → pot < sh.pots → found (script_in pot) rs ≡ None → ⊥)
  decides_scripts =
      Decides-like (all_scripts (said sh rs)) (λ h pot l. h pot (omega arith) l) (λ h pot _ l. h pot l)
      (decides_all (scripted_in (said sh rs)) (λ pot. pot < sh.pots → found (script_in pot) rs ≡ None → ⊥) script_in_lem 6)

  decides_source : Decides (has_source (said sh rs)) (FromUrn rs ⊎ FromScripts sh rs)
  decides_source =
      Decides-at _ _ (ap (λ o. cond (is_some o) (not (any_script (said sh rs))) (all_scripts (said sh rs))) (seed_said sh rs))
      (by_seed (found seed_in rs) (not (any_script (said sh rs))) (all_scripts (said sh rs)) decides_no_script decides_scripts)

  pub decides_whole : Decides (is_whole (said sh rs)) (Whole sh rs)
  decides_whole =
      Decides-like (is_whole (said sh rs)) (λ p. record { named = p.0; source = p.1 }) (λ w. (w.named, w.source))
      (Decides-and (all_named (said sh rs)) (has_source (said sh rs)) decides_named decides_source)
