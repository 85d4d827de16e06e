-- One record more, in what the records from a place on make of a sheet record.
use Rattle.std.proofs.Common.{◌≡◌, ℕ, zero, suc, ◌+◌, ◌-◌, ◌≤◌, List, [], ◌∷◌, length, drop, Ok, Err, IsErrAnd, Result, sym, refl, ap, ◌∙◌, arith, lit≤, length-drop}
use Rattle.std.proofs.lemmas.List.{drop-drop}
use Rattle.std.proofs.lemmas.Bool.Decides.{nat_tests}
use Rattle.records.specs.declared.refusal.SheetFault.{SheetFault}
use Rattle.records.specs.declared.item.Record.{Record}
use Rattle.records.specs.declared.item.Record.TheVariants.{Shape as ShapeRecord, Team, Pair, Cap, Bars, Seed, Script, End}
use Rattle.records.specs.Forms.{decoded, size_of}
use Rattle.sheets.specs.declared.sheet.Sheet.{Sheet}
use Rattle.sheets.specs.Taking.{verdict, taken}
use Rattle.reading.specs.Reading.{bind, shaped, opened, closed, at_end, going, reading}

-- a record that was read takes no more bytes than there are
pub decoded_size : (bs : List ℕ) (at : ℕ) (r : Record) → decoded bs at ≡ Ok r → size_of r ≤ length bs
decoded_size bs at r h = grind (arith, nat_tests)

pub size_fits : (bytes : List ℕ) (p : ℕ) (r : Record) → decoded (drop p bytes) p ≡ Ok r → size_of r ≤ length bytes - p
size_fits bytes p r h = rw length-drop at (decoded_size (drop p bytes) p r h)

pub size_some : (r : Record) → 1 ≤ size_of r
size_some (ShapeRecord g p) = lit≤ tt
size_some (Team pot ball a c) = lit≤ tt
size_some (Pair a b) = lit≤ tt
size_some (Cap a m) = lit≤ tt
size_some (Bars n g) = lit≤ tt
size_some (Seed x) = lit≤ tt
size_some (Script pot o) = lit≤ tt
size_some End = lit≤ tt

-- one turn of the reading
abbrev pub turn : ℕ → Sheet → List ℕ → ℕ → ℕ → Result Record SheetFault → Result Sheet SheetFault
turn n s bs at len d =
    bind d (λ r.
    at_end r (bind (closed s at len) (λ _. Ok s))
    (bind (verdict s r at) (λ _. going n (taken s r) (drop (size_of r) bs) (at + size_of r) len)))

pub going_err : (n : ℕ) (s : Sheet) (bs : List ℕ) (at len : ℕ) (f : SheetFault) → length bs ≤ n → decoded bs at ≡ Err f → going n s bs at len ≡ Err f
unfolding going
going_err zero s [] at len f l h = cc
going_err zero s (x ∷ bs) at len f l h = absurd (omega arith)
going_err (suc n) s bs at len f l h = ap (turn n s bs at len) h

pub not_end : {X : Type 0} (r : Record) (x y : X) → (r ≡ End → ⊥) → at_end r x y ≡ y
not_end (ShapeRecord g p) x y ne = refl
not_end (Team pot ball a c) x y ne = refl
not_end (Pair a b) x y ne = refl
not_end (Cap a m) x y ne = refl
not_end (Bars n g) x y ne = refl
not_end (Seed w) x y ne = refl
not_end (Script pot o) x y ne = refl
not_end End x y ne = absurd (ne refl)

pub going_put : (n : ℕ) (s : Sheet) (bs : List ℕ) (at len : ℕ) (r : Record) → length bs ≤ n → decoded bs at ≡ Ok r → (r ≡ End → ⊥)
    → (m : ℕ) × (n ≡ suc m) × (going n s bs at len ≡ bind (verdict s r at) (λ _. going m (taken s r) (drop (size_of r) bs) (at + size_of r) len))
unfolding going
going_put zero s [] at len r l h ne = cc
going_put zero s (x ∷ bs) at len r l h ne = absurd (omega arith)
going_put (suc n) s bs at len r l h ne =
    (n, refl, ap (turn n s bs at len) h ∙ not_end r (bind (closed s at len) (λ _. Ok s)) (bind (verdict s r at) (λ _. going n (taken s r) (drop (size_of r) bs) (at + size_of r) len)) ne)

pub going_end : (n : ℕ) (s : Sheet) (bs : List ℕ) (at len : ℕ) → length bs ≤ n → decoded bs at ≡ Ok End → going n s bs at len ≡ bind (closed s at len) (λ _. Ok s)
unfolding going
going_end zero s [] at len l h = cc
going_end zero s (x ∷ bs) at len l h = absurd (omega arith)
going_end (suc n) s bs at len l h = ap (turn n s bs at len) h

-- the records before a place have made s, and those from there on give the whole reading
pub record Sofar (bytes : List ℕ) (s : Sheet) (place : ℕ) : Type 0 where
  pub within : place ≤ length bytes
  pub left : ℕ
  pub enough : length bytes ≤ place + left
  pub leads : going left s (drop place bytes) place (length bytes) ≡ reading bytes

shaped_long : (bs : List ℕ) (s : Sheet) (r : Record) → decoded bs 0 ≡ Ok r → shaped r ≡ Ok s → 3 ≤ length bs
shaped_long bs s (ShapeRecord g p) d h = decoded_size bs 0 (ShapeRecord g p) d
shaped_long bs s (Team pot ball a c) d h = cc
shaped_long bs s (Pair a b) d h = cc
shaped_long bs s (Cap a m) d h = cc
shaped_long bs s (Bars n g) d h = cc
shaped_long bs s (Seed x) d h = cc
shaped_long bs s (Script pot o) d h = cc
shaped_long bs s End d h = cc

pub bind_ok : {X Y : Type 0} (o : Result X SheetFault) (f : X → Result Y SheetFault) (y : Y) → bind o f ≡ Ok y → (x : X) × (o ≡ Ok x) × (f x ≡ Ok y)
bind_ok (Ok x) f y h = (x, refl, h)
bind_ok (Err e) f y h = cc

pub start : (bytes : List ℕ) (s : Sheet) → opened bytes ≡ Ok s → Sofar bytes s 3
unfolding reading
start bytes s h =
    let d = bind_ok (decoded bytes 0) shaped s h in
    record {
      within = shaped_long bytes s d.0 d.1 d.2;
      left = length bytes;
      enough = omega arith;
      leads = ap (λ o. bind o (λ t. going (length bytes) t (drop 3 bytes) 3 (length bytes))) (sym h);
    }

pub start_err : (bytes : List ℕ) (f : SheetFault) → opened bytes ≡ Err f → reading bytes ≡ Err f
unfolding reading
start_err bytes f h = ap (λ o. bind o (λ t. going (length bytes) t (drop 3 bytes) 3 (length bytes))) h

module _ (bytes : List ℕ) (s : Sheet) (p : ℕ) (at : Sofar bytes s p) where
  long : length (drop p bytes) ≤ at.left
  long = simp length-drop (omega arith)

  pub record_err : (f : SheetFault) → decoded (drop p bytes) p ≡ Err f → Err f ≡ reading bytes
  record_err f d = sym (going_err at.left s (drop p bytes) p (length bytes) f long d) ∙ at.leads

  pub ended : (r : Record) → decoded (drop p bytes) p ≡ Ok r → r ≡ End → (o : Result (Unit {0}) SheetFault) → closed s p (length bytes) ≡ o → bind o (λ _. Ok s) ≡ reading bytes
  ended r d e o h = ap (λ q. bind q (λ _. Ok s)) (sym h) ∙ sym (going_end at.left s (drop p bytes) p (length bytes) long (d ∙ ap Ok e)) ∙ at.leads

  module _ (r : Record) (d : decoded (drop p bytes) p ≡ Ok r) (ne : r ≡ End → ⊥) where
    next : (o : Result (Unit {0}) SheetFault) → verdict s r p ≡ o → bind o (λ _. going (going_put at.left s (drop p bytes) p (length bytes) r long d ne).0 (taken s r) (drop (p + size_of r) bytes) (p + size_of r) (length bytes)) ≡ reading bytes
    next o v =
        let g = going_put at.left s (drop p bytes) p (length bytes) r long d ne in
        ap (λ q. bind q (λ _. going g.0 (taken s r) (drop (p + size_of r) bytes) (p + size_of r) (length bytes))) (sym v)
        ∙ ap (λ l. bind (verdict s r p) (λ _. going g.0 (taken s r) l (p + size_of r) (length bytes))) (sym (drop-drop (size_of r) p bytes))
        ∙ sym g.2
        ∙ at.leads

    pub put_err : (f : SheetFault) → verdict s r p ≡ Err f → Err f ≡ reading bytes
    put_err f v = next (Err f) v

    pub put_more : verdict s r p ≡ Ok tt → Sofar bytes (taken s r) (p + size_of r)
    put_more v =
        let g = going_put at.left s (drop p bytes) p (length bytes) r long d ne in
        let fits = size_fits bytes p r d in
        record {
          within = omega (arith, at.within);
          left = g.0;
          enough = omega (arith, at.enough, g.1, size_some r);
          leads = next (Ok tt) v;
        }

-- an answer that passes a fault on
pub refuses : (bytes : List ℕ) (o : Result Sheet SheetFault) (f : SheetFault) → IsErrAnd o (λ e. e ≡ f) → Err f ≡ reading bytes → o ≡ reading bytes
refuses bytes (Ok s) f h e = absurd h
refuses bytes (Err g) f h e = ap Err h ∙ e
