-- A number that each ball that is in takes one from, up to the ball that finds none left.
use Rattle.std.proofs.Common.{◌≡◌, ℕ, zero, suc, ◌+◌, ◌-◌, ◌<◌, ◌≤◌, Bool, true, false, cond, ltb, List, length, take, Option, Some, None, Result, Ok, Err, MatchOption, MatchResult, IsErrAnd, ControlFlow, Continue, Break, sym, refl, ap, subst, ◌∙◌, arith}
use Rattle.std.specs.Fn.{Called}
use Rattle.std.specs.Iterator.{TryFoldsItems, TryFoldTurn}
use Rattle.std.specs.Result.{result_err}
use Rattle.std.specs.List.{FoldsTo, range_with_len}
use Rattle.std.proofs.lemmas.Bool.{ltb-true, ltb-false}
use Rattle.std.proofs.lemmas.Iterator.{YieldsList}
use Rattle.std.proofs.lemmas.Iterator.Consumers.{YieldsList-so_far, YieldsList-turn, YieldsList-end}
use Rattle.std.proofs.lemmas.List.{map-id}
use Rattle.std.proofs.lemmas.List.FromFn.{length-range_with_len, get_or-range_with_len, take-map-range_with_len}
use Rattle.shapes.specs.Counting.{count_below}
use Rattle.shapes.proofs.Counts.{count_more, count_none}
use Rattle.shapes.proofs.Ranges.{Nth}
use denote.Param.Members.{Mut}

value : Result ℕ ℕ → ℕ
value (Ok x) = x
value (Err x) = x

variant : Result ℕ ℕ → ℕ
variant (Ok x) = 0
variant (Err x) = 1

-- what one ball makes of the number that is left
abbrev pub turn : (ℕ → Bool) → ℕ → ℕ → Result ℕ ℕ
turn p left x = cond (p x) (cond (ltb 0 left) (Ok (left - 1)) (Err x)) (Ok left)

goes_on : (b c : Bool) (left x next : ℕ) → ltb 0 left ≡ c → ◌≡◌ {A = Result ℕ ℕ} (cond b (cond c (Ok (left - 1)) (Err x)) (Ok left)) (Ok next) → left ≡ next + cond b 1 0
unfolding value variant
goes_on true true left x next t e = let f = ap value e in omega (arith, f, ltb-true 0 left t)
goes_on true false left x next t e = absurd (let f = ap variant e in omega (arith, f))
goes_on false c left x next t e = let f = ap value e in omega (arith, f)

ends : (b c : Bool) (left x y : ℕ) → ltb 0 left ≡ c → ◌≡◌ {A = Result ℕ ℕ} (cond b (cond c (Ok (left - 1)) (Err x)) (Ok left)) (Err y) → (b ≡ true) × (left ≡ 0) × (y ≡ x)
unfolding value variant
ends true true left x y t e = absurd (let f = ap variant e in omega (arith, f))
ends true false left x y t e = (refl, omega (arith, ltb-false 0 left t), sym (ap value e))
ends false c left x y t e = absurd (let f = ap variant e in omega (arith, f))

-- the same of what `err` gives
pub told : (p : ℕ → Bool) (m lower : ℕ) (r : Result ℕ ℕ) (k o : Option ℕ) → k ≡ result_err r → k ≡ o → MatchResult r (λ _. count_below p m ≤ lower) (Nth p lower m) → MatchOption o (count_below p m ≤ lower) (Nth p lower m)
told p m lower (Ok x) k o is was h = rw (sym was ∙ is) h
told p m lower (Err x) k o is was h = rw (sym was ∙ is) h

-- the error that `?` would hand on
pub handed : (r : Result ℕ ℕ) (y : ℕ) → IsErrAnd r (λ z. z ≡ y) → r ≡ Err y
handed (Ok x) y e = absurd e
handed (Err x) y e = ap (λ z. Err z) e

module _ (p : ℕ → Bool) {F E : Type 0} (g : Mut F (ℕ × (ℕ × Unit {0})) (Result ℕ ℕ)) (f : F) (acts : (left x : ℕ) (v : Result ℕ ℕ) (q : F) → Called g f (left, (x, tt)) v q → (q ≡ f) × (v ≡ turn p left x))
    (branches : Result ℕ ℕ → ControlFlow E ℕ → Type 0) (on : (v : Result ℕ ℕ) (a : ℕ) → branches v (Continue a) → v ≡ Ok a) where
  abbrev Turns : F × ℕ → List ℕ → F × ℕ → Type 0
  Turns = FoldsTo {P = F × ℕ} (TryFoldTurn g branches)

  -- as many were taken as pass
  taken : (n a l : ℕ) (h : F) (b : ℕ) → Turns (f, l) (range_with_len a n) (h, b) → (h ≡ f) × (l + count_below p a ≡ b + count_below p (a + n))
  taken zero a l h b e =
      let same : count_below p (a + 0) ≡ count_below p a = ap (count_below p) (omega arith) in
      let left : l ≡ b = ap (λ (q : F × ℕ). q.1) e in
      (sym (ap (λ (q : F × ℕ). q.0) e), omega (arith, left, same))
  taken (suc n) a l h b (j, (v, called, went), rest) =
      let c = acts l a v j.0 called in
      let one = goes_on (p a) (ltb 0 l) l a j.1 refl (sym c.1 ∙ on v j.1 went) in
      let more = taken n (a + 1) j.1 h b (subst (λ (w : F). Turns (w, j.1) (range_with_len (a + 1) n) (h, b)) c.0 rest) in
      let end : count_below p (a + 1 + n) ≡ count_below p (a + suc n) = ap (count_below p) (omega arith) in
      (more.0, omega (arith, one, more.1, end, count_more p a))

  module _ {S : Type 0} {steps : S → Option ℕ → S → Type 0} {s : S} (u : S) (m lower : ℕ) (list : YieldsList steps (λ x. x) s (range_with_len 0 m)) (resumes : E → Result ℕ ℕ → Type 0) (off : (v : Result ℕ ℕ) (e : E) (r : Result ℕ ℕ) → branches v (Break e) → resumes e r → (z : ℕ) × (v ≡ Err z) × (r ≡ Err z)) where
    -- the ball that found none left, or fewer than enough balls
    pub taker : (r : Result ℕ ℕ) → TryFoldsItems steps g branches resumes s f lower r u → MatchResult r (λ _. count_below p m ≤ lower) (Nth p lower m)
    taker r (xs, None, h, b, (t, y, last), folds, end) =
        let all = (YieldsList-end list xs t y None u refl last).0 in
        let whole = taken m 0 lower h b (subst (λ zs. Turns (f, lower) zs (h, b)) (sym (map-id xs) ∙ all) folds) in
        let upto : count_below p (0 + m) ≡ count_below p m = ap (count_below p) (omega arith) in
        rw (on r b end) (omega (arith, whole.1, upto, count_none p))
    taker r (xs, Some x, h, b, (t, y, here), folds, (v, w, e, called, broke, resumed)) =
        let place = YieldsList-turn list xs t y (Some x) u x refl here in
        let low : length xs < m = omega (arith, place.0, length-range_with_len 0 m) in
        let at : x ≡ length xs = omega (arith, place.1, get_or-range_with_len 0 m (length xs) x low) in
        let before : xs ≡ range_with_len 0 (length xs) = sym (map-id xs) ∙ YieldsList-so_far list xs t y ∙ ap (take (length xs)) (sym (map-id (range_with_len 0 m))) ∙ take-map-range_with_len (λ z. z) 0 m (length xs) (omega (arith, low)) ∙ map-id (range_with_len 0 (length xs)) in
        let first = taken (length xs) 0 lower h b (subst (λ zs. Turns (f, lower) zs (h, b)) before folds) in
        let c = acts b x v w (subst (λ (z : F). Called g z (b, (x, tt)) v w) first.0 called) in
        let broken = off v e r broke resumed in
        let ball = broken.0 in
        let out = ends (p x) (ltb 0 b) b x ball refl (sym c.1 ∙ broken.1) in
        let upto : count_below p (0 + length xs) ≡ count_below p ball = ap (count_below p) (omega (arith, at, out.2)) in
        rw broken.2 (record { below = omega (arith, low, at, out.2); passes = ap p out.2 ∙ out.0; before = omega (arith, first.1, upto, out.1, count_none p) })
