-- A sheet is read as the format has it: accepted as what it says, refused by its first fault.
use Rattle.std.proofs.Common.{◌≡◌, ℕ, zero, suc, ◌+◌, ◌<◌, ◌≤◌, Bool, true, false, cond, ◌⊎◌, List, [], ◌∷◌, ◌++◌, length, take, drop, Some, None, Ok, Err, Decides, Result, sym, refl, ap, ◌∙◌, subst, inl, inr, ⊎_elim, arith}
use Rattle.std.proofs.lemmas.List.{append_assoc, length-append, length-drop, take-append-drop, drop_at, nil_from_length}
use Rattle.std.proofs.lemmas.Bool.{true≢false, cases_Bool, cases_lt, cond-true, cond-false, lt-ltb, le-ltb}
use Rattle.std.proofs.lemmas.Bool.Decides.{nat_tests}
use Rattle.shapes.specs.declared.Shape.{Shape}
use Rattle.shapes.specs.Teams.{Sized, sized, shape_of}
use Rattle.records.specs.declared.refusal.SheetFault.{SheetFault}
use Rattle.records.specs.declared.refusal.SheetRefusal.{SheetRefusal}
use Rattle.records.specs.declared.refusal.SheetRefusal.TheVariants.{UnknownKind, CutShort, ShapeMisplaced, OutOfRange, Repeated, TooManyPairs, NotAnOrder, BytesAfterEnd, Incomplete}
use Rattle.records.specs.declared.item.Record.{Record}
use Rattle.records.specs.declared.item.Record.TheVariants.{Shape as ShapeRecord, Team, Pair, Cap, Bars, Seed, Script, End}
use Rattle.records.specs.Forms.{Form, size_of, decoded}
use Rattle.records.specs.Refusals.{fault}
use Rattle.sheets.specs.declared.sheet.Sheet.{Sheet}
use Rattle.sheets.specs.Taking.{blank, is_shape, verdict, taken, is_whole}
use Rattle.reading.specs.Reading.{bind, started, shaped, opened, closed, going, reading}
use Rattle.reading.specs.Format.{Front, said, IsShape, Next, Whole, Begun, Accepted, FailsFirst, Fails, beyond, Refused, Exact}
use Rattle.reading.proofs.Going.{turn, not_end, size_some, Sofar, start, start_err, record_err, put_err, put_more, ended}
use Rattle.reading.proofs.Fronts.{form_of, front_of, form_size, reads, end_at, unknown, short, no_record}
use Rattle.reading.proofs.Saying.{said_none, said_more}
use Rattle.reading.proofs.Judging.{decides_shape, code_said, association_said, decides_whole}
use Rattle.reading.proofs.Verdicts.{Says, judged, no_to, next_taken, shape_refused, range_refused, again_refused, room_refused, order_refused}

-- what an outcome of the reading says of the bytes
abbrev pub Out : List ℕ → Result Sheet SheetFault → Type 0
Out bs (Ok t) = Accepted bs t
Out bs (Err f) = Refused bs f

end_or_not : (r : Record) → (r ≡ End) ⊎ (r ≡ End → ⊥)
end_or_not (ShapeRecord g p) = inr (λ e. cc)
end_or_not (Team pot ball a c) = inr (λ e. cc)
end_or_not (Pair a b) = inr (λ e. cc)
end_or_not (Cap a m) = inr (λ e. cc)
end_or_not (Bars n g) = inr (λ e. cc)
end_or_not (Seed x) = inr (λ e. cc)
end_or_not (Script pot o) = inr (λ e. cc)
end_or_not End = inl refl

closed_early : (s : Sheet) (at len : ℕ) → at + 1 < len → closed s at len ≡ Err (fault BytesAfterEnd (at + 1))
closed_early s at len h = cond-true _ _ _ (lt-ltb (at + 1) len h)

closed_late : (s : Sheet) (at len : ℕ) → len ≤ at + 1 → closed s at len ≡ cond (is_whole s) (Ok tt) (Err (fault Incomplete at))
closed_late s at len h = cond-false _ _ _ (le-ltb (at + 1) len h)

ends_here : (rest : List ℕ) → Front End rest → length rest ≤ 1 → rest ≡ 90 ∷ []
ends_here rest w l =
    let e : rest ≡ 90 ∷ w.1 = w.3 ∙ ap (λ o. o ++ w.1) w.2 in
    let n : length w.1 ≡ 0 = omega (arith, ap length e) in
    e ∙ ap (λ o. 90 ∷ o) (nil_from_length w.1 n)

some_byte : (rest after : List ℕ) → rest ≡ 90 ∷ after → 1 < length rest → (next : ℕ) × (tail : List ℕ) × (rest ≡ 90 ∷ next ∷ tail)
some_byte rest [] e l = absurd (omega (arith, ap length e))
some_byte rest (x ∷ after) e l = (x, after, e)

ends_early : (rest : List ℕ) → Front End rest → 1 < length rest → (next : ℕ) × (tail : List ℕ) × (rest ≡ 90 ∷ next ∷ tail)
ends_early rest w l = some_byte rest w.1 (w.3 ∙ ap (λ o. o ++ w.1) w.2) l

module _ (bs : List ℕ) (sh : Shape) where
  -- one record more
  more : (rs : List Record) (at : ℕ) (rest : List ℕ) (r : Record) (own after : List ℕ) → Begun bs sh rs at rest → Form r own → rest ≡ own ++ after → Next sh rs r
      → Begun bs sh (r ∷ rs) (at + size_of r) after
  more rs at rest r own after b f e n = record {
    sized = b.sized;
    kept = (n, b.kept);
    body = b.body ++ own;
    spelt = (b.body, own, b.spelt, f, refl);
    bytes = b.bytes ∙ ap (λ l. 71 ∷ sh.groups ∷ sh.pots ∷ l) (ap (λ l. b.body ++ l) e ∙ sym (append_assoc b.body own after));
    at = let k = form_size r own f in let l = length-append b.body own in omega (arith, b.at);
  }

  -- the place of the rest, and the length of the whole
  whole_length : (rs : List Record) (at : ℕ) (rest : List ℕ) → Begun bs sh rs at rest → length bs ≡ at + length rest
  whole_length rs at rest b = ap length b.bytes ∙ (let l = length-append b.body rest in omega (arith, b.at))

  -- the records so far are in order, and the rest fails
  later : (rs : List Record) (at : ℕ) (rest : List ℕ) (f : SheetFault) → Begun bs sh rs at rest → Fails f.refusal sh rs rest → f.place ≡ at + beyond f.refusal → Refused bs f
  later rs at rest f b x p = inr (record { shape = sh; records = rs; place = at; rest = rest; begun = b; fails = x; at = p })

  -- at the end record
  by_whole : (rs : List Record) (at : ℕ) (rest : List ℕ) → Begun bs sh rs at rest → rest ≡ 90 ∷ [] → (b : Bool) → Decides b (Whole sh rs)
      → Out bs (bind (cond b (Ok tt) (Err (fault Incomplete at))) (λ (_ : Unit {0}). Ok (said sh rs)))
  by_whole rs at rest g e true d = record { shape = sh; records = rs; place = at; begun = subst (Begun bs sh rs at) e g; whole = d.0 refl; says = refl; codes = code_said sh rs; associations = association_said sh rs }
  by_whole rs at rest g e false d = later rs at rest (fault Incomplete at) g (e, λ w. true≢false (sym (d.1 w))) (omega arith)

  at_end_lem : (rs : List Record) (at : ℕ) (rest : List ℕ) → Begun bs sh rs at rest → Front End rest → Out bs (bind (closed (said sh rs) at (length bs)) (λ _. Ok (said sh rs)))
  at_end_lem rs at rest g w =
      let l = whole_length rs at rest g in
      let go : Result (Unit {0}) SheetFault → Type 0 = λ o. Out bs (bind o (λ _. Ok (said sh rs))) in
      ⊎_elim
      (λ k. subst go (sym (closed_early (said sh rs) at (length bs) (omega arith)))
      (later rs at rest (fault BytesAfterEnd (at + 1)) g (ends_early rest w k) refl))
      (λ k. subst go (sym (closed_late (said sh rs) at (length bs) (omega arith)))
      (by_whole rs at rest g (ends_here rest w k) (is_whole (said sh rs)) (decides_whole sh rs g.sized)))
      (cases_lt 1 (length rest))

  -- the reading goes on from records in order
  module _ (n : ℕ) (rs : List Record) (at : ℕ) (rest : List ℕ) (g : Begun bs sh rs at rest) (l : length rest ≤ suc n)
      (go : (qs : List Record) (to : ℕ) (after : List ℕ) → Begun bs sh qs to after → length after ≤ n → Out bs (going n (said sh qs) after to (length bs))) where
    by_verdict : (r : Record) → decoded rest at ≡ Ok r → (o : Result (Unit {0}) SheetFault) → Says sh rs r rest at o
        → Out bs (bind o (λ _. going n (taken (said sh rs) r) (drop (size_of r) rest) (at + size_of r) (length bs)))
    by_verdict r d (Ok u) x =
        let e = said_more sh rs r g.sized x.fits x.room in
        let b = more rs at rest r (take (size_of r) rest) (drop (size_of r) rest) g (form_of rest at r d) (sym (take-append-drop (size_of r) rest)) x in
        let k : length (drop (size_of r) rest) ≤ n = simp length-drop (omega (arith, size_some r)) in
        subst (λ s. Out bs (going n s (drop (size_of r) rest) (at + size_of r) (length bs))) (sym e) (go (r ∷ rs) (at + size_of r) (drop (size_of r) rest) b k)
    by_verdict r d (Err f) x = later rs at rest f g x.0 x.1

    by_record : (d : Result Record SheetFault) → decoded rest at ≡ d → Out bs (turn n (said sh rs) rest at (length bs) d)
    by_record (Err f) d =
        ⊎_elim
        (λ u. subst (Refused bs) (sym u.1) (later rs at rest (fault UnknownKind at) g u.0 (omega arith)))
        (λ u. subst (Refused bs) (sym u.1) (later rs at rest (fault CutShort at) g u.0 (omega arith)))
        (no_record rest at f d)
    by_record (Ok r) d =
        ⊎_elim
        (λ e. subst (λ q. Out bs (turn n (said sh rs) rest at (length bs) (Ok q))) (sym e) (at_end_lem rs at rest g (subst (λ q. Front q rest) e (front_of rest at r d))))
        (λ ne.
        subst (Out bs)
        (sym (not_end r (bind (closed (said sh rs) at (length bs)) (λ _. Ok (said sh rs))) (bind (verdict (said sh rs) r at) (λ _. going n (taken (said sh rs) r) (drop (size_of r) rest) (at + size_of r) (length bs))) ne))
        (by_verdict r d (verdict (said sh rs) r at) (judged sh rs r rest at (front_of rest at r d) ne g.sized)))
        (end_or_not r)

  -- the reading from a place on, with records in order before it
  pub goes : (n : ℕ) (rs : List Record) (at : ℕ) (rest : List ℕ) → Begun bs sh rs at rest → length rest ≤ n → Out bs (going n (said sh rs) rest at (length bs))
  unfolding going
  goes zero rs at rest g l = later rs at rest (fault CutShort at) g (inl (nil_from_length rest (omega arith))) (omega arith)
  goes (suc n) rs at rest g l = by_record n rs at rest g l (λ qs to after b k. goes n qs to after b k) (decoded rest at) refl

-- the first record
sized_from : (g p : ℕ) → sized g p ≡ true → Sized g p
sized_from g p h = grind (arith, nat_tests)

sized_to : (g p : ℕ) → Sized g p → sized g p ≡ true
sized_to g p h = grind (arith, nat_tests)

abbrev shape_of_lem : ℕ → ℕ → Shape
shape_of_lem g p = record { groups = g; pots = p }

abbrev rest_of : List ℕ → Result Sheet SheetFault → Result Sheet SheetFault
rest_of bs o = bind o (λ s. going (length bs) s (drop 3 bs) 3 (length bs))

first_cut : (bs : List ℕ) (g p : ℕ) → decoded bs 0 ≡ Ok (ShapeRecord g p) → bs ≡ 71 ∷ g ∷ p ∷ drop 3 bs
first_cut bs g p d =
    let own : take 3 bs ≡ 71 ∷ g ∷ p ∷ [] = form_of bs 0 (ShapeRecord g p) d in
    sym (take-append-drop 3 bs) ∙ ap (λ l. l ++ drop 3 bs) own

first_shape : (bs : List ℕ) (g p : ℕ) → decoded bs 0 ≡ Ok (ShapeRecord g p) → (b : Bool) → sized g p ≡ b
    → Out bs (rest_of bs (started (cond b (Some (shape_of_lem g p)) None)))
first_shape bs g p d true e =
    let b : Begun bs (shape_of_lem g p) [] 3 (drop 3 bs) = record { sized = sized_from g p e; kept = tt; body = []; spelt = refl; bytes = first_cut bs g p d; at = refl } in
    let k : length (drop 3 bs) ≤ length bs = simp length-drop (omega arith) in
    subst (λ s. Out bs (going (length bs) s (drop 3 bs) 3 (length bs))) (sym (said_none (shape_of_lem g p))) (goes bs (shape_of_lem g p) (length bs) [] 3 (drop 3 bs) b k)
first_shape bs g p d false e = inl ((g, p, drop 3 bs, first_cut bs g p d, λ z. true≢false (sym (sized_to g p z) ∙ e)), refl)

misplaced : (r : Record) → (IsShape r → ⊥) → shaped r ≡ Err (fault ShapeMisplaced 0)
misplaced (ShapeRecord g p) h = absurd (h (g, p, refl))
misplaced (Team pot ball a c) h = refl
misplaced (Pair a b) h = refl
misplaced (Cap a m) h = refl
misplaced (Bars n g) h = refl
misplaced (Seed x) h = refl
misplaced (Script pot o) h = refl
misplaced End h = refl

shape_or_not : (r : Record) → IsShape r ⊎ (IsShape r → ⊥)
shape_or_not r = ⊎_elim (λ t. inl ((decides_shape r).0 t)) (λ f. inr (λ w. true≢false (sym ((decides_shape r).1 w) ∙ f))) (cases_Bool (is_shape r))

first : (bs : List ℕ) (d : Result Record SheetFault) → decoded bs 0 ≡ d → Out bs (rest_of bs (bind d shaped))
first bs (Err f) d =
    ⊎_elim
    (λ u. subst (Refused bs) (sym u.1) (inl (u.0, refl)))
    (λ u. subst (Refused bs) (sym u.1) (inl (u.0, refl)))
    (no_record bs 0 f d)
first bs (Ok r) d =
    ⊎_elim
    (λ w. subst (λ q. Out bs (rest_of bs (shaped q))) (sym w.2) (first_shape bs w.0 w.1 (d ∙ ap Ok w.2) (sized w.0 w.1) refl))
    (λ other. subst (λ o. Out bs (rest_of bs o)) (sym (misplaced r other)) (inl ((r, front_of bs 0 r d, other), refl)))
    (shape_or_not r)

-- what is read is what the format has
pub reading_out : (bs : List ℕ) → Out bs (reading bs)
unfolding reading
reading_out bs = first bs (decoded bs 0) refl

-- and back: whatever the format has is read
begun_drop : (bs : List ℕ) (sh : Shape) (rs : List Record) (at : ℕ) (rest : List ℕ) → Begun bs sh rs at rest → drop at bs ≡ rest
begun_drop bs sh rs at rest b =
    let n : length (71 ∷ sh.groups ∷ sh.pots ∷ b.body) ≡ at = sym (b.at ∙ omega arith) in
    ap (drop at) b.bytes ∙ drop_at (71 ∷ sh.groups ∷ sh.pots ∷ b.body) rest at n

shape_begun : (sh : Shape) → Sized sh.groups sh.pots → shape_of sh.groups sh.pots ≡ Some sh
shape_begun sh z = cond-true _ _ _ (sized_to sh.groups sh.pots z)

opens : (bs : List ℕ) (sh : Shape) (rest : List ℕ) → bs ≡ 71 ∷ sh.groups ∷ sh.pots ∷ rest → Sized sh.groups sh.pots → opened bs ≡ Ok (blank sh)
opens bs sh rest e z =
    ap (λ l. bind (decoded l 0) shaped) e
    ∙ ap (λ d. bind d shaped) (reads (ShapeRecord sh.groups sh.pots) (71 ∷ sh.groups ∷ sh.pots ∷ []) rest 0 refl)
    ∙ ap started (shape_begun sh z)

-- the reading comes to the end of records in order
reach : (bs : List ℕ) (sh : Shape) (rs : List Record) (at : ℕ) (rest : List ℕ) → Begun bs sh rs at rest → Sofar bs (said sh rs) at
reach bs sh [] at rest b =
    let e : bs ≡ 71 ∷ sh.groups ∷ sh.pots ∷ rest = b.bytes ∙ ap (λ l. 71 ∷ sh.groups ∷ sh.pots ∷ (l ++ rest)) b.spelt in
    let k : 3 ≡ at = sym (b.at ∙ ap (λ l. 3 + length l) b.spelt) in
    subst (λ s. Sofar bs s at) (said_none sh) (subst (Sofar bs (blank sh)) k (start bs (blank sh) (opens bs sh rest e b.sized)))
reach bs sh (r ∷ rs) at rest b =
    let w = b.spelt in
    let x = b.kept.0 in
    let p = 3 + length w.0 in
    let before : Begun bs sh rs p (w.1 ++ rest) = record {
      sized = b.sized;
      kept = b.kept.1;
      body = w.0;
      spelt = w.2;
      bytes = b.bytes ∙ ap (λ l. 71 ∷ sh.groups ∷ sh.pots ∷ l) (ap (λ l. l ++ rest) w.4 ∙ append_assoc w.0 w.1 rest);
      at = refl;
    } in
    let d : decoded (drop p bs) p ≡ Ok r = ap (λ l. decoded l p) (begun_drop bs sh rs p (w.1 ++ rest) before) ∙ reads r w.1 rest p w.3 in
    let s = put_more bs (said sh rs) p (reach bs sh rs p (w.1 ++ rest) before) r d x.inner.1 (next_taken sh rs r p b.sized x) in
    let n = form_size r w.1 w.3 in
    let k : p + size_of r ≡ at = sym (b.at ∙ ap (λ l. 3 + length l) w.4 ∙ (let l = length-append w.0 w.1 in omega arith)) in
    subst (Sofar bs (said sh (r ∷ rs))) k (subst (λ t. Sofar bs t (p + size_of r)) (said_more sh rs r b.sized x.fits x.room) s)

-- a sheet is read as what it says
pub accepted_reads : (bs : List ℕ) (t : Sheet) → Accepted bs t → reading bs ≡ Ok t
accepted_reads bs t w =
    let sh = w.shape in
    let rs = w.records in
    let at = w.place in
    let b = w.begun in
    let s = reach bs sh rs at (90 ∷ []) b in
    let d : decoded (drop at bs) at ≡ Ok End = ap (λ l. decoded l at) (begun_drop bs sh rs at (90 ∷ []) b) ∙ end_at [] at in
    let l = whole_length bs sh rs at (90 ∷ []) b in
    let c : closed (said sh rs) at (length bs) ≡ Ok tt =
    closed_late (said sh rs) at (length bs) (omega arith) ∙ cond-true _ _ _ ((decides_whole sh rs b.sized).1 w.whole) in
    sym (ended bs (said sh rs) at s End d refl (Ok tt) c) ∙ ap Ok (sym w.says)

not_shape_end : (r : Record) → IsShape r → r ≡ End → ⊥
not_shape_end r w e = cc (w.2)

-- a fault is told
module _ (bs : List ℕ) (sh : Shape) (rs : List Record) (at : ℕ) (rest : List ℕ) (b : Begun bs sh rs at rest) where
  here : drop at bs ≡ rest
  here = begun_drop bs sh rs at rest b

  unread : (f : SheetFault) → decoded rest at ≡ Err f → reading bs ≡ Err f
  unread f d = sym (record_err bs (said sh rs) at (reach bs sh rs at rest b) f (ap (λ l. decoded l at) here ∙ d))

  unput : (r : Record) → Front r rest → (r ≡ End → ⊥) → (f : SheetFault) → verdict (said sh rs) r at ≡ Err f → reading bs ≡ Err f
  unput r w ne f v =
      let d : decoded (drop at bs) at ≡ Ok r = ap (λ l. decoded l at) (here ∙ w.3) ∙ reads r w.0 w.1 at w.2 in
      sym (put_err bs (said sh rs) at (reach bs sh rs at rest b) r d ne f v)

  unended : (after : List ℕ) → rest ≡ 90 ∷ after → (f : SheetFault) → closed (said sh rs) at (length bs) ≡ Err f → reading bs ≡ Err f
  unended after e f c =
      let d : decoded (drop at bs) at ≡ Ok End = ap (λ l. decoded l at) (here ∙ e) ∙ end_at after at in
      sym (ended bs (said sh rs) at (reach bs sh rs at rest b) End d refl (Err f) c)

  still : (why : SheetRefusal) → reading bs ≡ Err (fault why at) → reading bs ≡ Err (fault why (at + 0))
  still why h = h ∙ ap (λ n. Err (fault why n)) (let k : at ≡ at + 0 = omega arith in k)

  pub fails_read : (why : SheetRefusal) → Fails why sh rs rest → reading bs ≡ Err (fault why (at + beyond why))
  fails_read UnknownKind x = still UnknownKind (unread (fault UnknownKind at) (unknown rest at x))
  fails_read CutShort x = still CutShort (unread (fault CutShort at) (short rest at x))
  fails_read ShapeMisplaced x =
      still ShapeMisplaced (unput x.0 x.1 (not_shape_end x.0 x.2) (fault ShapeMisplaced at) (shape_refused sh rs x.0 at b.sized x.2))
  fails_read OutOfRange x =
      still OutOfRange (unput x.0 x.1 x.2.1 (fault OutOfRange at) (range_refused sh rs x.0 at b.sized x.2.0 x.3))
  fails_read Repeated x =
      still Repeated (unput x.0 x.1 x.2.1 (fault Repeated at) (again_refused sh rs x.0 at b.sized x.2.0 x.3 x.4))
  fails_read TooManyPairs x =
      still TooManyPairs (unput x.0 x.1 x.2.1 (fault TooManyPairs at) (room_refused sh rs x.0 at b.sized x.2.0 x.3 x.4 x.5))
  fails_read NotAnOrder x =
      still NotAnOrder (unput x.0 x.1 x.2.1 (fault NotAnOrder at) (order_refused sh rs x.0 at b.sized x.2.0 x.3 x.4 x.5 x.6))
  fails_read BytesAfterEnd x =
      let l = whole_length bs sh rs at rest b in
      let k = ap length x.2 in
      unended (x.0 ∷ x.1) x.2 (fault BytesAfterEnd (at + 1)) (closed_early (said sh rs) at (length bs) (omega arith))
  fails_read Incomplete x =
      let l = whole_length bs sh rs at rest b in
      let k = ap length x.0 in
      still Incomplete (unended [] x.0 (fault Incomplete at) (closed_late (said sh rs) at (length bs) (omega arith) ∙ cond-false _ _ _ (no_to (is_whole (said sh rs)) (decides_whole sh rs b.sized) x.1)))

unshaped : (bs : List ℕ) (r : Record) → decoded bs 0 ≡ Ok r → (IsShape r → ⊥) → opened bs ≡ Err (fault ShapeMisplaced 0)
unshaped bs r d other = ap (λ o. bind o shaped) d ∙ misplaced r other

first_fails : (bs : List ℕ) (why : SheetRefusal) → FailsFirst why bs → opened bs ≡ Err (fault why 0)
first_fails bs UnknownKind x = ap (λ d. bind d shaped) (unknown bs 0 x)
first_fails bs CutShort x = ap (λ d. bind d shaped) (short bs 0 x)
first_fails bs ShapeMisplaced x =
    let w = x.1 in
    unshaped bs x.0 (ap (λ l. decoded l 0) w.3 ∙ reads x.0 w.0 w.1 0 w.2) x.2
first_fails bs OutOfRange x =
    ap (λ l. bind (decoded l 0) shaped) x.3
    ∙ ap (λ d. bind d shaped) (reads (ShapeRecord x.0 x.1) (71 ∷ x.0 ∷ x.1 ∷ []) x.2 0 refl)
    ∙ ap started (cond-false (sized x.0 x.1) (Some (shape_of_lem x.0 x.1)) None (no_to (sized x.0 x.1) (sized_from x.0 x.1, sized_to x.0 x.1) x.4))
first_fails bs Repeated x = absurd x
first_fails bs TooManyPairs x = absurd x
first_fails bs NotAnOrder x = absurd x
first_fails bs BytesAfterEnd x = absurd x
first_fails bs Incomplete x = absurd x

pub refused_reads : (bs : List ℕ) (f : SheetFault) → Refused bs f → reading bs ≡ Err f
refused_reads bs f (inl x) = start_err bs f (first_fails bs f.refusal x.0 ∙ ap (λ n. Err (fault f.refusal n)) (sym x.1))
refused_reads bs f (inr x) =
    fails_read bs x.shape x.records x.place x.rest x.begun f.refusal x.fails ∙ ap (λ n. Err (fault f.refusal n)) (sym x.at)

-- both ways at once
pub exactly : (bs : List ℕ) (o : Result Sheet SheetFault) → o ≡ reading bs → Exact bs o
exactly bs o e = record {
  accepted = λ t. (λ w. e ∙ accepted_reads bs t w, λ h. subst (Out bs) (sym e ∙ h) (reading_out bs));
  refused = λ f. (λ w. e ∙ refused_reads bs f w, λ h. subst (Out bs) (sym e ∙ h) (reading_out bs));
}
