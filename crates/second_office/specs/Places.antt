-- The places of typed numbers, as they are noted and as balls go out: lemmas, for proofs. No contract rests on them.
use Rattle.std.specs.Prelude.{◌≡◌, ℕ, zero, suc, ◌+◌, ◌<◌, ◌≤◌, Bool, true, false, cond, List, [], ◌∷◌, length, replicate, is_some, Some, None, Option, ◌≢◌, nat_lt, slice_index, slice_index_or, slice_set, refl}
use Rattle.std.proofs.Common.{inl, inr, sym, ap, subst, ◌∙◌, arith, below_more, length-set}
use Rattle.std.proofs.lemmas.List.{get_or-replicate, get_or-set_other, get_or-set_same}
use Rattle.std.proofs.lemmas.Bool.{both_ways, cases_eq, cond-false, cond-true, le-ltb, lt-ltb, true≢false}
use Rattle.sources.specs.Sources.{Gave}
use Rattle.second_office.specs.Typing.{FirstPlace, Foremost, TypedFrom, TypedHolds, place_of, without}
use Rattle.second_office.specs.declared.typed.Typed.{Typed}

pub place_low : (s : Typed) (team : ℕ) → team < 96 → place_of s team ≡ slice_index_or s.places team None
place_low s team low = cond-true (nat_lt team 96) _ None (lt-ltb team 96 low)

pub place_past : (s : Typed) (team : ℕ) → 96 ≤ team → place_of s team ≡ None
place_past s team past = cond-false (nat_lt team 96) _ None (le-ltb team 96 past)

-- a ball that goes out

cleared : (places : List (Option ℕ)) (i : ℕ) → slice_index_or (slice_set places i None) i None ≡ None
cleared [] i = refl
cleared (p ∷ places) zero = refl
cleared (p ∷ places) (suc i) = cleared places i

none_both : (b : Bool) → ◌≡◌ {A = Option ℕ} (cond b None None) None
none_both true = refl
none_both false = refl

place_gone : (s : Typed) (team : ℕ) → place_of (without s team) team ≡ None
place_gone s team = ap (λ (o : Option ℕ). cond (nat_lt team 96) o None) (cleared s.places team) ∙ none_both (nat_lt team 96)

place_other : (s : Typed) (team other : ℕ) → (other ≢ team) → place_of (without s team) other ≡ place_of s other
place_other s team other ne = ap (λ (o : Option ℕ). cond (nat_lt other 96) o None) (get_or-set_other s.places team other None None ne)

-- the law of a ball that is given
pub typed_gave : (s : Typed) (pot ball : ℕ) (after : Typed) → Foremost s pot ball × (after ≡ without s ball) → Gave TypedHolds s pot ball after
typed_gave s pot ball after (first, left) = record {
  of_pot = first.of_pot;
  was_in = first.is_in;
  gone = λ still. both_ways _ (ap (λ (v : Typed). is_some (place_of v ball)) left ∙ ap is_some (place_gone s ball)) still;
  others = λ team ne.
      let same : is_some (place_of after team) ≡ is_some (place_of s team) = ap (λ (v : Typed). is_some (place_of v team)) left ∙ ap is_some (place_other s ball team ne) in
      (λ now. sym same ∙ now, λ before. same ∙ before);
}

-- numbers as they are noted

-- each team has the place at which its number stands first among the first numbers
abbrev pub Noted : List ℕ → ℕ → List (Option ℕ) → Type 0
Noted numbers count places = (length places ≡ 96) × ((team : ℕ) → team < 96 → FirstPlace numbers count team (slice_index_or places team None))

pub none_noted : (numbers : List ℕ) → Noted numbers 0 (replicate 96 None)
none_noted numbers = (refl, λ team low. subst (FirstPlace numbers 0 team) (sym (get_or-replicate 96 team None None low)) (λ i under. absurd (omega arith)))

is_none : (o : Option ℕ) → is_some o ≡ false → o ≡ None
is_none None e = refl
is_none (Some p) e = absurd (true≢false e)

-- the next number is another, or one that has its place
first_kept : (numbers : List ℕ) (count n : ℕ) (o : Option ℕ) → FirstPlace numbers count n o → (o ≡ None → slice_index numbers count ≢ n) → FirstPlace numbers (count + 1) n o
first_kept numbers count n (Some place) (low, here, before) skip = (omega arith, here, before)
first_kept numbers count n None none skip = below_more _ _ none (skip refl)

module _ (numbers : List ℕ) (count : ℕ) (places : List (Option ℕ)) (noted : Noted numbers count places) where
  -- the next number is that of no team, or has its place
  pub noted_before : (slice_index numbers count < 96 → is_some (slice_index_or places (slice_index numbers count) None) ≡ true) → Noted numbers (count + 1) places
  noted_before known = (
    noted.0,
    λ team low. first_kept numbers count team _ (noted.1 team low)
        (λ none here. both_ways _ (ap is_some none) (subst (λ (x : ℕ). is_some (slice_index_or places x None) ≡ true) here (known (omega arith)))),
  )

  -- the next number is a team's, and comes for the first time
  pub noted_first : (new : ℕ) → slice_index numbers count ≡ new → new < 96 → is_some (slice_index_or places new None) ≡ false → Noted numbers (count + 1) (slice_set places new (Some count))
  noted_first new next low fresh =
      let inside : new < length places = omega (arith, noted.0) in (
        length-set places new (Some count) ∙ noted.0,
        λ team under. elim (cases_eq team new) [
          | inl e ↦
              subst (λ (x : ℕ). FirstPlace numbers (count + 1) x (slice_index_or (slice_set places new (Some count)) x None)) (sym e)
              (subst (FirstPlace numbers (count + 1) new) (sym (get_or-set_same places new (Some count) None inside))
              (omega arith, next, subst (FirstPlace numbers count new) (is_none _ fresh) (noted.1 new low)))
          | inr ne ↦
              subst (FirstPlace numbers (count + 1) team) (sym (get_or-set_other places new team (Some count) None ne))
              (first_kept numbers count team _ (noted.1 team under) (λ none here. ne (sym here ∙ next)))
        ],
      )

pub all_noted : (numbers : List ℕ) (count : ℕ) (s : Typed) → count ≡ length numbers → Noted numbers count s.places → TypedFrom numbers s
all_noted numbers count s all noted team low =
    subst (FirstPlace numbers (length numbers) team) (sym (place_low s team low)) (subst (λ (k : ℕ). FirstPlace numbers k team (slice_index_or s.places team None)) all (noted.1 team low))
