-- The ball of a pot that was typed first, as a chain over the team numbers finds it.
use Rattle.std.proofs.Common.{◌≡◌, ℕ, zero, suc, ◌+◌, ◌/◌, ◌<◌, Bool, true, false, cond, ◌&&◌, ◌==◌, List, [], ◌∷◌, length, is_some, Some, None, Option, sym, refl, ap, ◌∙◌, subst, inl, inr, arith}
use Rattle.std.proofs.lemmas.Bool.{and_from, and_parts, both_ways, cases_lt, cond-true, eq-eqb, eqb-true, false≢true, le-ltb}
use Rattle.std.proofs.lemmas.Map.Keys.{ge_from_not_lt}
use Rattle.std.proofs.iter.Yields.{nat_range_steps}
use Rattle.std.proofs.iter.runs.Made.{at-is}
use Rattle.std.proofs.iter.runs.Sources.{range_runs}
use Rattle.std.specs.Iterator.{ActsAsAt}
use Rattle.std.specs.Iterator.Runs.{AnyItem, CallKeepsClosure, NoKeyBeyond, Run}
use Rattle.std.specs.List.{filter, slice_get}
use Rattle.std.specs.Fn.{CalledAt}
use Rattle.std.specs.Option.{IfSome, IsSomeAnd, MatchOption, option_cmp, option_map}
use Rattle.std.specs.Ordering.{is_lt, nat_cmp}
use denote.Param.Members.{Mut}
use denote.Ref.{Bor}
use Rattle.shapes.specs.Teams.{pot_of}
use Rattle.second_office.specs.Typing.{FirstOf, earlier, place_of}
use Rattle.second_office.specs.Places.{place_past}
use Rattle.second_office.specs.declared.typed.Typed.{Typed}

abbrev pub Among : List ℕ → ℕ → Type 0
Among xs x = (k : ℕ) × (slice_get xs k ≡ Some x)

-- an item of the least key, or none where there is no item
abbrev pub Least : (ℕ → Option ℕ) → List ℕ → Option ℕ → Type 0
Least key items None = length items ≡ 0
Least key items (Some m) = Among items m × ((x : ℕ) → Among items x → is_lt (option_cmp nat_cmp (key x) (key m)) ≡ false)

-- what a filter keeps

front : (b : Bool) (y x : ℕ) (zs : List ℕ) → Among zs x → Among (cond b (y ∷ zs) zs) x
front true y x zs (k, e) = (suc k, e)
front false y x zs among = among

kept : (t : ℕ → Bool) (xs : List ℕ) (k x : ℕ) → slice_get xs k ≡ Some x → t x ≡ true → Among (filter t xs) x
kept t [] k x e passes = absurd (cc)
kept t (y ∷ ys) zero x e passes =
    let same : y ≡ x = cc in
    let here : filter t (y ∷ ys) ≡ y ∷ filter t ys = cond-true (t y) _ _ (ap t same ∙ passes) in
    (0, ap (λ (l : List ℕ). slice_get l 0) here ∙ e)
kept t (y ∷ ys) (suc k) x e passes = front (t y) y x (filter t ys) (kept t ys k x e passes)

later : (t : ℕ → Bool) (y x : ℕ) (ys zs : List ℕ) (b : Bool) → t y ≡ b → ((k : ℕ) → slice_get zs k ≡ Some x → Among ys x × (t x ≡ true)) → (k : ℕ) → slice_get (cond b (y ∷ zs) zs) k ≡ Some x → Among (y ∷ ys) x × (t x ≡ true)
later t y x ys zs true here more zero e = let same : y ≡ x = cc in ((0, e), ap t (sym same) ∙ here)
later t y x ys zs true here more (suc k) e = let r = more k e in ((suc r.0.0, r.0.1), r.1)
later t y x ys zs false here more k e = let r = more k e in ((suc r.0.0, r.0.1), r.1)

drawn : (t : ℕ → Bool) (xs : List ℕ) (k x : ℕ) → slice_get (filter t xs) k ≡ Some x → Among xs x × (t x ≡ true)
drawn t [] k x e = absurd (cc)
drawn t (y ∷ ys) k x e = later t y x ys (filter t ys) (t y) refl (λ j. drawn t ys j x) k e

-- every team number, and no other, is an item of the range

plain : (o : Option ℕ) (n : ℕ) → option_map (λ y. y) o ≡ Some n → o ≡ Some n
plain None n e = e
plain (Some x) n e = e

module _ (q : Run nat_range_steps) (start : q.from.start ≡ 0) (end : q.from.end ≡ 96) where
  pub each_team : q.whole ≡ true → (team : ℕ) → team < 96 → Among q.items team
  each_team whole team low =
      let up = range_runs q q.seen in
      (team, sym (at-is q team) ∙ plain (q.at team) _ (up.3 team (omega (arith, up.1 whole))) ∙ ap Some (omega arith))

  pub only_teams : (x : ℕ) → Among q.items x → x < 96
  only_teams x (k, e) =
      let here = subst (λ (o : Option ℕ). IfSome o (λ y. (y ≡ q.from.start + k) × (y < q.from.end))) (at-is q k ∙ e) ((range_runs q q.seen).2 k) in
      omega (arith, here.1)

-- the least by a key that the closure computes

is_there : (o : Option ℕ) (m : ℕ) → IsSomeAnd o (λ x. x ≡ m) → o ≡ Some m
is_there None m h = absurd h
is_there (Some x) m e = ap Some e

module _ {S F : Type 0} {steps : S → Option ℕ → S → Type 0} (p : Run steps) (g : Mut F (Bor ℕ × Unit {0}) (Option ℕ)) (f : F) (key : ℕ → Option ℕ) where
  pub least : CallKeepsClosure g f → ActsAsAt g f key → (found : Option ℕ) → MatchOption found (p.len ≡ 0) (λ m. AnyItem p (λ x. x ≡ m) × NoKeyBeyond p g f is_lt (option_cmp nat_cmp) m) → Least key p.items found
  least keeps acts None none = sym p.long ∙ none
  least keeps acts (Some m) (any, beyond) =
      let (k, called, all) = beyond keeps in (
        (any.0, sym (at-is p any.0) ∙ is_there _ m any.2),
        λ x among.
            let here = subst (λ (o : Option ℕ). IfSome o (λ y. (j : Option ℕ) × CalledAt g f y j f × (is_lt (option_cmp nat_cmp j k) ≡ false))) (at-is p among.0 ∙ among.1) (all among.0) in
            let own : k ≡ key m = (acts m k f called).1 in
            let other : here.0 ≡ key x = (acts x here.0 f here.1).1 in
            subst (λ (o : Option ℕ). is_lt (option_cmp nat_cmp o (key m)) ≡ false) other (subst (λ (o : Option ℕ). is_lt (option_cmp nat_cmp here.0 o) ≡ false) own here.2),
      )

-- the first of a pot

not_before : (o e : Option ℕ) → is_some e ≡ true → (is_some o ≡ true → is_lt (option_cmp nat_cmp o e) ≡ false) → earlier o e ≡ false
not_before None e held least = refl
not_before (Some p) None held least = absurd (false≢true held)
not_before (Some p) (Some q) held least = le-ltb p q (ge_from_not_lt p q (least refl))

module _ (s : Typed) (pot : ℕ) where
  -- a ball of the pot that is in
  abbrev pub comes_next : ℕ → Bool
  comes_next team = (team / 16 == pot) && is_some (place_of s team)

  module _ (numbers items : List ℕ) (all : (team : ℕ) → team < 96 → Among numbers team) (only : (x : ℕ) → Among numbers x → x < 96) (same : items ≡ filter comes_next numbers) where
    listed : (team : ℕ) → pot_of team ≡ pot → is_some (place_of s team) ≡ true → Among items team
    listed team of_pot held = elim (cases_lt team 96) [
      | inl low ↦
          let at = all team low in
          subst (λ (l : List ℕ). Among l team) (sym same) (kept comes_next numbers at.0 team at.1 (and_from _ _ (eq-eqb _ _ of_pot) held))
      | inr past ↦ absurd (both_ways _ (ap is_some (place_past s team past)) held)
    ]

    pub first_found : (found : Option ℕ) → Least (place_of s) items found → FirstOf s pot found
    first_found None none = λ team of_pot held. no_item items none (listed team of_pot held)
      where
        no_item : (xs : List ℕ) → length xs ≡ 0 → {x : ℕ} → Among xs x → ⊥
        no_item [] e (k, here) = cc
        no_item (y ∷ ys) e among = omega arith
    first_found (Some m) (among, least) =
        let own = drawn comes_next numbers among.0 m (subst (λ (l : List ℕ). slice_get l among.0 ≡ Some m) same among.1) in
        let passed = and_parts _ _ own.1 in
        record {
          team = only m own.0;
          of_pot = eqb-true _ _ passed.0;
          is_in = passed.1;
          foremost = λ other of_pot. not_before (place_of s other) (place_of s m) passed.1 (λ held. least other (listed other of_pot held));
        }
