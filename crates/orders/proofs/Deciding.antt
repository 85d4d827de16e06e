-- The test of an order decides what an order is.
use Rattle.std.proofs.Common.{◌≡◌, ℕ, ◌<◌, ◌≤◌, Bool, eqb, leb, List, length, get_or, take, Decides, sym, ◌∙◌, inl, inr, ⊎_elim, arith}
use Rattle.std.proofs.lemmas.Bool.{and_from, and_parts, cases_lt, cases_order, le-leb, leb-true}
use Rattle.std.proofs.lemmas.List.{get_or-take, length-take-le}
use Rattle.std.proofs.lemmas.Bool.Decides.{nat_tests, Decides-like, Decides-not, Decides-eqb}
use Rattle.shapes.proofs.Pigeons.{onto}
use Rattle.orders.specs.Orders.{Follows, InPlace, OrderOf, stands_before, in_place, all_in_place, is_order}
use Rattle.orders.proofs.Scans.{decides_all, decides_any}

decides_before : (o : List ℕ) (i : ℕ) → Decides (stands_before o i) ((j : ℕ) × (j < i) × (get_or o j 0 ≡ get_or o i 0))
decides_before o i = decides_any (λ j. eqb (get_or o j 0) (get_or o i 0)) (λ j. get_or o j 0 ≡ get_or o i 0) (λ j. Decides-eqb (get_or o j 0) (get_or o i 0)) i

decides_place : (balls : ℕ) (o : List ℕ) (i : ℕ) → Decides (in_place balls o i) (InPlace balls o i)
decides_place balls o i =
    let no = Decides-not (stands_before o i) (decides_before o i) in (
      λ h. record {
        ball = λ l. grind (arith, nat_tests);
        once = λ l j k e. no.0 (grind (arith, nat_tests)) (j, k, e);
        rest = λ g. grind (arith, nat_tests);
      },
      λ p. ⊎_elim
          (λ l. let b = p.ball l in let c = no.1 (λ q. p.once l q.0 q.1 q.2) in grind (arith, nat_tests))
          (λ g. let e = p.rest g in grind (arith, nat_tests)) (cases_lt i balls),
    )

-- each place in order
abbrev pub AllInPlace : ℕ → List ℕ → Type 0
AllInPlace balls o = (i : ℕ) → i < 16 → InPlace balls o i

-- each byte may stand behind those before it
abbrev pub AllFollow : ℕ → List ℕ → Type 0
AllFollow balls o = (i : ℕ) → i < 16 → Follows balls (take i o) (get_or o i 0)

-- an answer to that is one to whether each place is in order
pub place_like : (balls : ℕ) (o : List ℕ) (r : Bool) → length o ≡ 16 → Decides r (AllFollow balls o) → Decides r (AllInPlace balls o)
place_like balls o r full = Decides-like r
    (λ h i l. let n = length-take-le i o (omega arith) in let p = h i l in record {
      ball = λ b. p.ball (omega arith);
      once = λ b j k e. p.once (omega arith) j (omega arith) (get_or-take i o j 0 k ∙ e);
      rest = λ g. p.rest (omega arith);
    })
    (λ h i l. let n = length-take-le i o (omega arith) in let p = h i l in record {
      ball = λ b. p.ball (omega arith);
      once = λ b j k e. let before : j < i = omega arith in p.once (omega arith) j before (sym (get_or-take i o j 0 before) ∙ e);
      rest = λ g. p.rest (omega arith);
    })

apart_places : (balls : ℕ) (o : List ℕ) → balls ≤ 16 → AllInPlace balls o → (i j : ℕ) → i < balls → j < balls → get_or o i 0 ≡ get_or o j 0 → i ≡ j
apart_places balls o few h i j bi bj e =
    elim (cases_order i j) [
      | inl same ↦ same
      | inr (inl l) ↦ absurd ((h j (omega arith)).once bj i l e)
      | inr (inr l) ↦ absurd ((h i (omega arith)).once bi j l (sym e))
    ]

order_from : (balls : ℕ) (o : List ℕ) → balls ≤ 16 → AllInPlace balls o → OrderOf balls o
order_from balls o few h =
    let ball : (i : ℕ) → i < balls → get_or o i 0 < balls = λ i b. (h i (omega arith)).ball b in
    record {
      ball = ball;
      each_ball = onto balls (λ i. get_or o i 0) ball (apart_places balls o few h);
      once = λ i j b k e. (h i (omega arith)).once b j k e;
      rest = λ i g l. (h i l).rest g;
    }

pub decides_each : (balls : ℕ) (o : List ℕ) → Decides (all_in_place balls o) (AllInPlace balls o)
decides_each balls o = decides_all (in_place balls o) (InPlace balls o) (decides_place balls o) 16

-- an answer to that is one to whether they are an order
pub order_like : (balls : ℕ) (o : List ℕ) (r : Bool) → balls ≤ 16 → Decides r (AllInPlace balls o) → Decides r (OrderOf balls o)
order_like balls o r few = Decides-like r (order_from balls o few) (λ p i l. record { ball = p.ball i; once = λ b j k e. p.once i j b k e; rest = λ g. p.rest i g l })

pub decides_order : (balls : ℕ) (o : List ℕ) → balls ≤ 16 → Decides (all_in_place balls o) (OrderOf balls o)
decides_order balls o few = order_like balls o (all_in_place balls o) few (decides_each balls o)

-- the same of the test that knows of too many balls: of those there is no order
pub decides_is_order : (balls : ℕ) (o : List ℕ) → Decides (is_order balls o) ((balls ≤ 16) × OrderOf balls o)
decides_is_order balls o = (
  λ h. let q = and_parts (leb balls 16) (all_in_place balls o) h in let few = leb-true balls 16 q.0 in (few, (decides_order balls o few).0 q.1),
  λ p. and_from (leb balls 16) (all_in_place balls o) (le-leb balls 16 p.0) ((decides_order balls o p.0).1 p.1),
)
