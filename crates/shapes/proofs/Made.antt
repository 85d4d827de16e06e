-- What `array::from_fn` makes by a closure that changes nothing.
use Rattle.std.proofs.Common.{◌≡◌, ℕ, zero, suc, ◌+◌, ◌<◌, ◌≤◌, List, map, sym, subst, ◌∙◌, inl, inr, arith}
use Rattle.std.specs.Array.{IsElementAt, IsFromFnResult, IsFromFnResultFrom}
use Rattle.std.specs.Iterator.Runs.{CallKeepsClosure}
use Rattle.std.specs.List.{range_with_len}
use Rattle.std.proofs.lemmas.Bool.{cases_eq}
use Rattle.std.proofs.lemmas.List.FromFn.{fill_by_all}
use denote.Param.Members.{Mut, Called}

module _ {F B : Type 0} (g : Mut F (ℕ × Unit {0}) B) (f : F) (ys : List B) (keeps : CallKeepsClosure g f) where
  -- the element at a place is what the closure, as it was passed, answers there
  pub made : (i n : ℕ) → IsFromFnResultFrom g f ys i n → (j : ℕ) → i ≤ j → j < i + n → (y : B) × IsElementAt ys j y × Called g f (j, tt) y f
  made i zero each j low high = absurd (omega arith)
  made i (suc n) (q, y, here, called, rest) j low high =
      let same : q ≡ f = keeps (i, tt) y q called in
      elim (cases_eq j i) [
        | inl e ↦ subst (λ (k : ℕ). (z : B) × IsElementAt ys k z × Called g f (k, tt) z f) (sym e) (y, here, subst (λ (h : F). Called g f (i, tt) y h) same called)
        | inr ne ↦ made (i + 1) n (subst (λ (h : F). IsFromFnResultFrom g h ys (i + 1) n) same rest) j (omega arith) (omega arith)
      ]

-- the whole list, where the closure computes a function of the place
pub made_by : {F B : Type 0} (g : Mut F (ℕ × Unit {0}) B) (f : F) (value : ℕ → B) → ((i : ℕ) (y : B) (q : F) → Called g f (i, tt) y q → (q ≡ f) × (y ≡ value i)) → (n : ℕ) (ys : List B) → B → IsFromFnResult g f ys n → ys ≡ map value (range_with_len 0 n)
made_by g f value steady n ys d all =
    fill_by_all value ys n d all.long (λ k low.
    let (y, here, called) = made g f ys (λ a y q e. (steady a.0 y q e).0) 0 n all.each k (omega arith) (omega arith) in
    here.1 d ∙ (steady k y f called).1)
