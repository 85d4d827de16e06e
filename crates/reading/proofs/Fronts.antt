-- A record at the front of bytes: what is decoded there, and what its form says.
use Rattle.std.proofs.Common.{◌≡◌, ℕ, suc, ◌+◌, ◌*◌, ◌<◌, ◌≤◌, ◌⊎◌, List, [], ◌∷◌, ◌++◌, length, get_or, take, drop, Some, None, Ok, Err, Option, Result, sym, refl, ap, ◌∙◌, inl, inr, arith}
use Rattle.std.proofs.lemmas.List.{take-append-drop, length-append, length-drop, take_at}
use Rattle.std.proofs.lemmas.Grind.{common_steps}
use Rattle.std.proofs.lemmas.Bool.Decides.{nat_tests}
use Rattle.records.specs.declared.refusal.SheetFault.{SheetFault}
use Rattle.records.specs.declared.refusal.SheetRefusal.TheVariants.{UnknownKind, CutShort}
use Rattle.records.specs.declared.item.Record.{Record}
use Rattle.records.specs.declared.item.Record.TheVariants.{Shape as ShapeRecord, Team, Pair, Cap, Bars, Seed, Script, End}
use Rattle.records.specs.Forms.{Form, body_of, size_of, eight, decoded}
use Rattle.records.specs.Refusals.{fault}
use Rattle.reading.specs.Format.{Front, Unknown, Short}
use Rattle.reading.proofs.Going.{decoded_size}

-- eight bytes spell the same number, whatever stands behind them
take8 : (bs : List ℕ) → 8 ≤ length bs → eight bs ≡ eight (take 8 bs)
take8 bs h = grind (arith, common_steps)

-- what was decoded has its form there, kind by kind
module _ (bs : List ℕ) (at : ℕ) where
  shape_form : (g p : ℕ) → decoded bs at ≡ Ok (ShapeRecord g p) → Form (ShapeRecord g p) (take 3 bs)
  shape_form g p h = grind (arith, nat_tests, common_steps)

  team_form : (pot ball a : ℕ) (c : List ℕ) → decoded bs at ≡ Ok (Team pot ball a c) → Form (Team pot ball a c) (take 7 bs)
  team_form pot ball a c h = (grind (arith, nat_tests, common_steps), grind (arith, nat_tests, common_steps))

  pair_form : (a b : ℕ) → decoded bs at ≡ Ok (Pair a b) → Form (Pair a b) (take 3 bs)
  pair_form a b h = grind (arith, nat_tests, common_steps)

  cap_form : (a m : ℕ) → decoded bs at ≡ Ok (Cap a m) → Form (Cap a m) (take 3 bs)
  cap_form a m h = grind (arith, nat_tests, common_steps)

  bars_form : (n g : ℕ) → decoded bs at ≡ Ok (Bars n g) → Form (Bars n g) (take 4 bs)
  bars_form n g h = (get_or bs 2 0, get_or bs 3 0, grind (arith, nat_tests, common_steps), grind (arith, nat_tests, common_steps))

  seed_form : (s : ℕ) → decoded bs at ≡ Ok (Seed s) → Form (Seed s) (take 9 bs)
  seed_form s h =
      let l = decoded_size bs at (Seed s) h in
      let e = take8 (drop 1 bs) (simp length-drop (omega arith)) in
      (take 8 (drop 1 bs), grind (arith, nat_tests, common_steps), grind (arith, nat_tests, common_steps), grind (arith, nat_tests, common_steps))

  script_form : (pot : ℕ) (o : List ℕ) → decoded bs at ≡ Ok (Script pot o) → Form (Script pot o) (take 18 bs)
  script_form pot o h = (grind (arith, nat_tests, common_steps), grind (arith, nat_tests, common_steps))

  end_form : decoded bs at ≡ Ok End → Form End (take 1 bs)
  end_form h = grind (arith, nat_tests, common_steps)

  pub form_of : (r : Record) → decoded bs at ≡ Ok r → Form r (take (size_of r) bs)
  form_of (ShapeRecord g p) h = shape_form g p h
  form_of (Team pot ball a c) h = team_form pot ball a c h
  form_of (Pair a b) h = pair_form a b h
  form_of (Cap a m) h = cap_form a m h
  form_of (Bars n g) h = bars_form n g h
  form_of (Seed s) h = seed_form s h
  form_of (Script pot o) h = script_form pot o h
  form_of End h = end_form h

pub front_of : (bs : List ℕ) (at : ℕ) (r : Record) → decoded bs at ≡ Ok r → Front r bs
front_of bs at r h = (take (size_of r) bs, drop (size_of r) bs, form_of bs at r h, sym (take-append-drop (size_of r) bs))

-- and back: a record is decoded from its form
pub form_size : (r : Record) (own : List ℕ) → Form r own → length own ≡ size_of r
form_size (ShapeRecord g p) own h = ap length h
form_size (Team pot ball a c) own h = ap length h.1 ∙ ap (λ n. suc (suc (suc (suc n)))) h.0
form_size (Pair a b) own h = ap length h
form_size (Cap a m) own h = ap length h
form_size (Bars n g) own h = ap length h.3
form_size (Seed s) own h = ap length h.3 ∙ ap suc h.1
form_size (Script pot o) own h = ap length h.1 ∙ ap (λ n. suc (suc n)) h.0
form_size End own h = ap length h

seed_at : (tail : List ℕ) (at : ℕ) → 8 ≤ length tail → decoded (85 ∷ tail) at ≡ Ok (Seed (eight tail))
seed_at tail at h = grind (arith, nat_tests)

script_at : (pot : ℕ) (tail : List ℕ) (at : ℕ) → 16 ≤ length tail → decoded (83 ∷ pot ∷ tail) at ≡ Ok (Script pot (take 16 tail))
script_at pot tail at h = grind (arith, nat_tests)

bars_at : (n high low : ℕ) (rest : List ℕ) (at : ℕ) → decoded (66 ∷ n ∷ high ∷ low ∷ rest) at ≡ Ok (Bars n (high * 256 + low))
bars_at n high low rest at = grind (arith, nat_tests)

shape_at : (g p : ℕ) (rest : List ℕ) (at : ℕ) → decoded (71 ∷ g ∷ p ∷ rest) at ≡ Ok (ShapeRecord g p)
shape_at g p rest at = grind (arith, nat_tests)

pair_at : (a b : ℕ) (rest : List ℕ) (at : ℕ) → decoded (88 ∷ a ∷ b ∷ rest) at ≡ Ok (Pair a b)
pair_at a b rest at = grind (arith, nat_tests)

cap_at : (a m : ℕ) (rest : List ℕ) (at : ℕ) → decoded (67 ∷ a ∷ m ∷ rest) at ≡ Ok (Cap a m)
cap_at a m rest at = grind (arith, nat_tests)

pub end_at : (rest : List ℕ) (at : ℕ) → decoded (90 ∷ rest) at ≡ Ok End
end_at rest at = grind (arith, nat_tests)

team_reads : (pot ball a : ℕ) (c rest : List ℕ) (at : ℕ) → length c ≡ 3 → decoded (84 ∷ pot ∷ ball ∷ a ∷ (c ++ rest)) at ≡ Ok (Team pot ball a c)
team_reads pot ball a c rest at h = grind (arith, nat_tests, common_steps)

seed_reads : (body rest : List ℕ) (at : ℕ) → length body ≡ 8 → decoded (85 ∷ (body ++ rest)) at ≡ Ok (Seed (eight body))
seed_reads body rest at h =
    let front : take 8 (body ++ rest) ≡ body = take_at body rest 8 h in
    let long : 8 ≤ length (body ++ rest) = simp length-append (omega arith) in
    let e : eight (body ++ rest) ≡ eight body = take8 (body ++ rest) long ∙ ap eight front in
    seed_at (body ++ rest) at long ∙ ap (λ x. Ok (Seed x)) e

script_reads : (pot : ℕ) (o rest : List ℕ) (at : ℕ) → length o ≡ 16 → decoded (83 ∷ pot ∷ (o ++ rest)) at ≡ Ok (Script pot o)
script_reads pot o rest at h =
    let front : take 16 (o ++ rest) ≡ o = take_at o rest 16 h in
    let long : 16 ≤ length (o ++ rest) = simp length-append (omega arith) in
    script_at pot (o ++ rest) at long ∙ ap (λ x. Ok (Script pot x)) front

pub reads : (r : Record) (own rest : List ℕ) (at : ℕ) → Form r own → decoded (own ++ rest) at ≡ Ok r
reads (ShapeRecord g p) own rest at h = ap (λ l. decoded (l ++ rest) at) h ∙ shape_at g p rest at
reads (Team pot ball a c) own rest at h = ap (λ l. decoded (l ++ rest) at) h.1 ∙ team_reads pot ball a c rest at h.0
reads (Pair a b) own rest at h = ap (λ l. decoded (l ++ rest) at) h ∙ pair_at a b rest at
reads (Cap a m) own rest at h = ap (λ l. decoded (l ++ rest) at) h ∙ cap_at a m rest at
reads (Bars n g) own rest at h = ap (λ l. decoded (l ++ rest) at) h.3 ∙ bars_at n h.0 h.1 rest at ∙ ap (λ x. Ok (Bars n x)) (sym h.2)
reads (Seed s) own rest at h = ap (λ l. decoded (l ++ rest) at) h.3 ∙ seed_reads h.0 rest at h.1 ∙ ap (λ x. Ok (Seed x)) (sym h.2)
reads (Script pot o) own rest at h = ap (λ l. decoded (l ++ rest) at) h.1 ∙ script_reads pot o rest at h.0
reads End own rest at h = ap (λ l. decoded (l ++ rest) at) h ∙ end_at rest at

-- no record there: an unknown kind, or one cut short
kind_none : (k : ℕ) (rest : List ℕ) (at : ℕ) → body_of k ≡ None → decoded (k ∷ rest) at ≡ Err (fault UnknownKind at)
kind_none k rest at h = grind (arith, nat_tests)

kind_short : (k n : ℕ) (rest : List ℕ) (at : ℕ) → body_of k ≡ Some n → length rest < n → decoded (k ∷ rest) at ≡ Err (fault CutShort at)
kind_short k n rest at h l = grind (arith, nat_tests)

kind_long : (k n : ℕ) (rest : List ℕ) (at : ℕ) (f : SheetFault) → body_of k ≡ Some n → decoded (k ∷ rest) at ≡ Err f → (length rest < n) × (f ≡ fault CutShort at)
kind_long k n rest at f h e = (grind (arith, nat_tests), grind (arith, nat_tests))

pub unknown : (bs : List ℕ) (at : ℕ) → Unknown bs → decoded bs at ≡ Err (fault UnknownKind at)
unknown bs at u = ap (λ l. decoded l at) u.2 ∙ kind_none u.0 u.1 at u.3

pub short : (bs : List ℕ) (at : ℕ) → Short bs → decoded bs at ≡ Err (fault CutShort at)
short bs at (inl e) = ap (λ l. decoded l at) e
short bs at (inr u) = ap (λ l. decoded l at) u.3 ∙ kind_short u.0 u.2 u.1 at u.4 u.5

same_err : {X : Type 0} {e f : SheetFault} → ◌≡◌ {A = Result X SheetFault} (Err e) (Err f) → f ≡ e
same_err h = cc

by_kind : (k : ℕ) (rest : List ℕ) (at : ℕ) (f : SheetFault) → decoded (k ∷ rest) at ≡ Err f → (o : Option ℕ) → body_of k ≡ o
    → (Unknown (k ∷ rest) × (f ≡ fault UnknownKind at)) ⊎ (Short (k ∷ rest) × (f ≡ fault CutShort at))
by_kind k rest at f h None e = inl ((k, rest, refl, e), same_err (sym (kind_none k rest at e) ∙ h))
by_kind k rest at f h (Some n) e = let l = kind_long k n rest at f e h in inr (inr (k, rest, n, refl, e, l.0), l.1)

pub no_record : (bs : List ℕ) (at : ℕ) (f : SheetFault) → decoded bs at ≡ Err f → (Unknown bs × (f ≡ fault UnknownKind at)) ⊎ (Short bs × (f ≡ fault CutShort at))
no_record [] at f h = inr (inl refl, same_err h)
no_record (k ∷ rest) at f h = by_kind k rest at f h (body_of k) refl
