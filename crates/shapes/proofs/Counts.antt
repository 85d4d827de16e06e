-- Laws of counting.
use Rattle.std.proofs.Common.{◌≡◌, ℕ, zero, suc, ◌+◌, ◌<◌, ◌≤◌, Bool, true, false, cond, sym, refl, ap, ◌∙◌, inl, inr, add-zero, add-one, arith}
use Rattle.std.proofs.lemmas.Bool.{cases_Bool, cases_eq, cases_order}
use Rattle.shapes.specs.Counting.{count_below}

module _ (p : ℕ → Bool) where
  pub count_none : count_below p 0 ≡ 0
  unfolding count_below
  count_none = refl

  pub count_more : (n : ℕ) → count_below p (n + 1) ≡ count_below p n + cond (p n) 1 0
  unfolding count_below
  count_more n = ap (count_below p) (add-one n)

  pub count_yes : (n : ℕ) → p n ≡ true → count_below p (n + 1) ≡ count_below p n + 1
  count_yes n e = count_more n ∙ ap (λ b. count_below p n + cond b 1 0) e

  pub count_no : (n : ℕ) → p n ≡ false → count_below p (n + 1) ≡ count_below p n
  count_no n e = count_more n ∙ ap (λ b. count_below p n + cond b 1 0) e ∙ add-zero (count_below p n)

  -- a count grows with the numbers that it goes through
  pub count_up : (m n : ℕ) → m ≤ n → count_below p m ≤ count_below p n
  count_up m zero h = let e : m ≡ 0 = omega arith in omega (arith, ap (count_below p) e)
  count_up m (suc n) h =
      elim (cases_eq m (suc n)) [
        | inl e ↦ omega (arith, ap (count_below p) e)
        | inr ne ↦ let r = count_up m n (omega arith) in let e = ap (count_below p) (add-one n) in omega (arith, count_more n)
      ]

  -- a number that passes is counted from there on
  pub count_past : (m n : ℕ) → m < n → p m ≡ true → count_below p m < count_below p n
  count_past m n h e = let r = count_up (m + 1) n (omega arith) in omega (arith, count_yes m e)

  -- two numbers that pass, with as many below them, are one
  pub count_once : (m n : ℕ) → p m ≡ true → p n ≡ true → count_below p m ≡ count_below p n → m ≡ n
  count_once m n here there e =
      elim (cases_order m n) [
        | inl same ↦ same
        | inr (inl low) ↦ absurd (let r = count_past m n low here in omega arith)
        | inr (inr low) ↦ absurd (let r = count_past n m low there in omega arith)
      ]

  -- where none passes, none is counted
  pub count_zero : (n : ℕ) → ((k : ℕ) → k < n → p k ≡ false) → count_below p n ≡ 0
  count_zero zero out = count_none
  count_zero (suc n) out = ap (count_below p) (sym (add-one n)) ∙ count_no n (out n (omega arith)) ∙ count_zero n (λ k h. out k (omega arith))

-- a test that passes where another does counts as many at least
pub count_fewer : (p q : ℕ → Bool) → ((n : ℕ) → p n ≡ true → q n ≡ true) → (n : ℕ) → count_below p n ≤ count_below q n
count_fewer p q implies zero = omega (arith, count_none p, count_none q)
count_fewer p q implies (suc n) =
    let r = count_fewer p q implies n in
    let e = ap (count_below p) (add-one n) in
    let f = ap (count_below q) (add-one n) in
    elim (cases_Bool (p n)) [
      | inl here ↦ omega (arith, count_yes p n here, count_yes q n (implies n here))
      | inr out ↦ omega (arith, count_no p n out, count_more q n)
    ]

-- two tests that agree below n count the same
pub count_same : (p q : ℕ → Bool) (n : ℕ) → ((k : ℕ) → k < n → p k ≡ q k) → count_below p n ≡ count_below q n
count_same p q zero same = count_none p ∙ sym (count_none q)
count_same p q (suc n) same =
    let r = count_same p q n (λ k h. same k (omega arith)) in
    ap (count_below p) (sym (add-one n)) ∙ count_more p n ∙ ap (λ m. m + cond (p n) 1 0) r ∙ ap (λ b. count_below q n + cond b 1 0) (same n (omega arith)) ∙ sym (count_more q n) ∙ ap (count_below q) (add-one n)
