-- Different numbers below n, as many as there are: each number below n is among them.
use Rattle.std.proofs.Common.{◌≡◌, ℕ, zero, suc, ◌<◌, cond, eqb, ◌⊎◌, sym, ap, ◌∙◌, inl, inr, arith}
use Rattle.std.proofs.lemmas.Bool.{cases_eq, eq-eqb, ne_eqb, cond-true, cond-false}

-- a choice of two, and which it was
picked : (a b x y : ℕ) → ((a ≡ b) × (cond (eqb a b) x y ≡ x)) ⊎ ((a ≡ b → ⊥) × (cond (eqb a b) x y ≡ y))
picked a b x y = elim (cases_eq a b) [ inl e ↦ inl (e, cond-true _ x y (eq-eqb a b e)) | inr ne ↦ inr (ne, cond-false _ x y (ne_eqb a b ne)) ]

-- different at different places
abbrev Apart : (ℕ → ℕ) → ℕ → Type 0
Apart f n = (i j : ℕ) → i < n → j < n → f i ≡ f j → i ≡ j

-- the last value in the place of the highest
abbrev swapped : (ℕ → ℕ) → ℕ → ℕ → ℕ
swapped f n i = cond (eqb (f i) n) (f (suc n)) (f i)

-- n numbers below n leave no room for one more
crowded : (n : ℕ) (f : ℕ → ℕ) → ((i : ℕ) → i < suc n → f i < n) → Apart f (suc n) → ⊥
crowded zero f low far = omega (arith, low 0 (omega arith))
crowded (suc n) f low far =
    crowded n (swapped f n)
    (λ i l. elim (picked (f i) n (f (suc n)) (f i)) [
      | inl a ↦ elim (cases_eq (f (suc n)) n) [
        | inl e ↦ let q = far i (suc n) (omega arith) (omega arith) (a.0 ∙ sym e) in absurd (omega arith)
        | inr ne ↦ let m = low (suc n) (omega arith) in let v = a.1 in omega arith
      ]
      | inr a ↦ let m = low i (omega arith) in let v = a.1 in let ne = a.0 in omega arith
    ])
    (λ i j li lj q. elim (picked (f i) n (f (suc n)) (f i)) [
      | inl a ↦ elim (picked (f j) n (f (suc n)) (f j)) [
        | inl b ↦ far i j (omega arith) (omega arith) (a.0 ∙ sym b.0)
        | inr b ↦ let z = far (suc n) j (omega arith) (omega arith) (sym a.1 ∙ q ∙ b.1) in absurd (omega arith)
      ]
      | inr a ↦ elim (picked (f j) n (f (suc n)) (f j)) [
        | inl b ↦ let z = far i (suc n) (omega arith) (omega arith) (sym a.1 ∙ q ∙ b.1) in absurd (omega arith)
        | inr b ↦ far i j (omega arith) (omega arith) (sym a.1 ∙ q ∙ b.1)
      ]
    ])

-- a value is met below n, or it is not
sought : (f : ℕ → ℕ) (n k : ℕ) → ((i : ℕ) × (i < n) × (f i ≡ k)) ⊎ ((i : ℕ) → i < n → f i ≡ k → ⊥)
sought f zero k = inr (λ i l. absurd (omega arith))
sought f (suc n) k =
    elim (cases_eq (f n) k) [
      | inl e ↦ inl (n, omega arith, e)
      | inr ne ↦ elim (sought f n k) [
        | inl s ↦ inl (s.0, omega (arith, s.1), s.2)
        | inr none ↦ inr (λ i l e. elim (cases_eq i n) [ inl q ↦ ne (sym (ap f q) ∙ e) | inr o ↦ none i (omega arith) e ])
      ]
    ]

-- one value more
abbrev extended : (ℕ → ℕ) → ℕ → ℕ → ℕ → ℕ
extended f n k i = cond (eqb i n) k (f i)

-- as many different numbers below n as there are: each is met
pub onto : (n : ℕ) (f : ℕ → ℕ) → ((i : ℕ) → i < n → f i < n) → Apart f n → (k : ℕ) → k < n → (i : ℕ) × (i < n) × (f i ≡ k)
onto n f low far k h =
    elim (sought f n k) [
      | inl s ↦ s
      | inr none ↦ absurd (crowded n (extended f n k)
          (λ i l. elim (picked i n k (f i)) [
            | inl a ↦ let v = a.1 in omega arith
            | inr a ↦ let v = a.1 in let ne = a.0 in let m = low i (omega arith) in omega arith
          ])
          (λ i j li lj q. elim (picked i n k (f i)) [
            | inl a ↦ elim (picked j n k (f j)) [
              | inl b ↦ a.0 ∙ sym b.0
              | inr b ↦ let ne = b.0 in absurd (none j (omega arith) (sym b.1 ∙ sym q ∙ a.1))
            ]
            | inr a ↦ elim (picked j n k (f j)) [
              | inl b ↦ let ne = a.0 in absurd (none i (omega arith) (sym a.1 ∙ q ∙ b.1))
              | inr b ↦ let ne = a.0 in let ne2 = b.0 in far i j (omega arith) (omega arith) (sym a.1 ∙ q ∙ b.1)
            ]
          ]))
    ]
