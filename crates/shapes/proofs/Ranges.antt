-- Counting along a range.
use Rattle.std.proofs.Common.{◌≡◌, ℕ, zero, suc, ◌+◌, ◌<◌, ◌≤◌, Bool, true, false, cond, List, ◌∷◌, length, filter, Option, Some, None, sym, refl, ap, ◌∙◌, arith}
use Rattle.std.specs.List.{count_by, range_with_len, slice_get}
use Rattle.std.specs.Option.{MatchOption, option_map}
use Rattle.std.proofs.lemmas.List.Sums.{length-filter, sum_by-cons}
use Rattle.shapes.specs.Counting.{count_below}
use Rattle.shapes.proofs.Counts.{count_none, count_more, count_no, count_yes}

module _ (p : ℕ → Bool) where
  -- n numbers from a on pass as often as the numbers below a + n do, and those below a do not
  count_from : (n a : ℕ) → count_by p (range_with_len a n) + count_below p a ≡ count_below p (a + n)
  count_from zero a = let e : count_below p a ≡ count_below p (a + 0) = ap (count_below p) (omega arith) in omega (arith, e)
  count_from (suc n) a =
      let rest = count_from n (a + 1) in
      let end : count_below p (a + 1 + n) ≡ count_below p (a + suc n) = ap (count_below p) (omega arith) in
      let first : count_by p (range_with_len a (suc n)) ≡ cond (p a) 1 0 + count_by p (range_with_len (a + 1) n) = sum_by-cons (λ x. cond (p x) 1 0) a (range_with_len (a + 1) n) in
      omega (arith, count_more p a)

  -- how many of a range pass, as a chain of iterators adds a one for each
  pub count_sum : (n r : ℕ) → r ≡ count_by p (range_with_len 0 n) → r ≡ count_below p n
  count_sum n r e =
      let f = count_from n 0 in
      let g : count_below p (0 + n) ≡ count_below p n = ap (count_below p) (omega arith) in
      omega (arith, count_none p)

  -- the same, as one counts them
  pub count_range : (n r : ℕ) → r ≡ length (filter p (range_with_len 0 n)) → r ≡ count_below p n
  count_range n r e = count_sum n r (e ∙ length-filter p (range_with_len 0 n))

-- x is the number of those below n that passes with i others below it
pub record Nth (p : ℕ → Bool) (i n x : ℕ) : Type 0 where
  pub below : x < n
  pub passes : p x ≡ true
  pub before : count_below p x ≡ i

module _ (p : ℕ → Bool) (k m : ℕ) where
  -- what a search along a list tells of the numbers below m, where i of them are still to be passed over
  abbrev Tells : List ℕ → ℕ → Type 0
  Tells xs i = MatchOption (slice_get xs i) (count_below p m ≤ k) (Nth p k m)

  -- a number at the front of the list, which has it where it passes
  front : (a : ℕ) (xs : List ℕ) → a < m → ((i : ℕ) → k ≡ i + count_below p (a + 1) → Tells xs i) → (b : Bool) (i : ℕ) → p a ≡ b → k ≡ i + count_below p a → Tells (cond b (a ∷ xs) xs) i
  front a xs h rest true zero q e = record { below = h; passes = q; before = omega (arith, e) }
  front a xs h rest true (suc i) q e = rest i (omega (arith, e, count_yes p a q))
  front a xs h rest false i q e = rest i (omega (arith, e, count_no p a q))

  nth_from : (n a i : ℕ) → a + n ≡ m → k ≡ i + count_below p a → Tells (filter p (range_with_len a n)) i
  nth_from zero a i t e = let f : count_below p a ≡ count_below p m = ap (count_below p) (omega arith) in omega (arith, f)
  nth_from (suc n) a i t e = front a _ (omega arith) (λ j. nth_from n (a + 1) j (omega arith)) (p a) i refl e

same : (o : Option ℕ) → option_map (λ x. x) o ≡ o
same None = refl
same (Some x) = refl

-- the i-th of those that pass, as a chain of iterators finds it
pub nth_range : (p : ℕ → Bool) (n i k : ℕ) → k ≡ i → (r o : Option ℕ) → r ≡ o → option_map (λ x. x) r ≡ slice_get (filter p (range_with_len 0 n)) k → MatchOption o (count_below p n ≤ i) (Nth p i n)
nth_range p n i k e r o g f =
    let q : o ≡ slice_get (filter p (range_with_len 0 n)) i = sym g ∙ sym (same r) ∙ f ∙ ap (slice_get (filter p (range_with_len 0 n))) e in
    rw q (nth_from p i n n 0 i (omega arith) (omega (arith, count_none p)))
