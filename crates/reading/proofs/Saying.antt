-- One record more, in what records say.
use Rattle.std.proofs.Common.{◌≡◌, ℕ, suc, ◌+◌, ◌-◌, ◌*◌, ◌<◌, cond, ◌≢◌, List, [], ◌∷◌, ◌++◌, length, get_or, set, replicate, Some, None, Option, sym, refl, ap, ◌∙◌, ⊎_elim, arith}
use Rattle.std.proofs.lemmas.List.{append_assoc, length-set, length-replicate, get_or-replicate, get_or-set_same, get_or-set_other, set-append_right, length-append}
use Rattle.std.proofs.lemmas.Bool.{cases_eq, eq-eqb, ne_eqb}
use Rattle.std.proofs.lemmas.List.FromFn.{length-map-range_with_len, get_or-map-range_with_len, fill_by_all}
use Rattle.shapes.specs.declared.Shape.{Shape}
use Rattle.shapes.specs.Teams.{Sized}
use Rattle.shapes.proofs.Balls.{ball_number}
use Rattle.records.specs.declared.item.Record.{Record}
use Rattle.records.specs.declared.item.Record.TheVariants.{Shape as ShapeRecord, Team, Pair, Cap, Bars, Seed, Script, End}
use Rattle.sheets.specs.declared.sheet.Entrant.{Entrant}
use Rattle.sheets.specs.Entrants.{entrant}
use Rattle.sheets.specs.Taking.{blank, taken}
use Rattle.reading.specs.Format.{each, said, found, for, or_else, team_in, cap_in, bars_in, script_in, pairs_in, Fits, Room}

module _ {X : Type 0} where
  pub length_each : (n : ℕ) (f : ℕ → X) → length (each n f) ≡ n
  unfolding each
  length_each n f = length-map-range_with_len f 0 n

  pub get_or_each : (n : ℕ) (f : ℕ → X) (i : ℕ) (d : X) → i < n → get_or (each n f) i d ≡ f i
  unfolding each
  get_or_each n f i d h = get_or-map-range_with_len f 0 n i i d h (omega arith)

  is_each : (n : ℕ) (f : ℕ → X) (xs : List X) (d : X) → length xs ≡ n → ((k : ℕ) → k < n → get_or xs k d ≡ f k) → xs ≡ each n f
  unfolding each
  is_each n f xs d l h = fill_by_all f xs n d l h

  -- a list of one value
  each_same : (n : ℕ) (x : X) → replicate n x ≡ each n (λ _. x)
  each_same n x = is_each n (λ _. x) (replicate n x) x (length-replicate n x) (λ k h. get_or-replicate n k x x h)

  set_each : (n i : ℕ) (f g : ℕ → X) (x : X) → i < n → g i ≡ x → ((k : ℕ) → k ≢ i → g k ≡ f k) → set (each n f) i x ≡ each n g
  set_each n i f g x h same other =
      is_each n g (set (each n f) i x) x (length-set (each n f) i x ∙ length_each n f)
      (λ k l.
      ⊎_elim
      (λ e. let in' : i < length (each n f) = rw length_each h in ap (λ j. get_or (set (each n f) i x) j x) e ∙ get_or-set_same (each n f) i x x in' ∙ sym same ∙ ap g (sym e))
      (λ ne. get_or-set_other (each n f) i k x x ne ∙ get_or_each n f k x l ∙ sym (other k ne))
      (cases_eq k i))

  -- a look-up, at the number that a record is of, and at any other
  pub for_same : (n : ℕ) (x : X) (o : Option X) → or_else (for n n x) o ≡ Some x
  for_same n x o = ap (λ b. or_else (cond b (Some x) None) o) (eq-eqb n n refl)

  for_other : (k n : ℕ) (x : X) (o : Option X) → k ≢ n → or_else (for k n x) o ≡ o
  for_other k n x o ne = ap (λ b. or_else (cond b (Some x) None) o) (ne_eqb n k (λ e. ne (sym e)))

set_for : {X : Type 0} (m n : ℕ) (f : ℕ → Option X) (x : X) → n < m → set (each m f) n (Some x) ≡ each m (λ k. or_else (for k n x) (f k))
set_for m n f x h = set_each m n f (λ k. or_else (for k n x) (f k)) (Some x) h (for_same n x (f n)) (λ k ne. for_other k n x (f k) ne)

-- nothing is said
pub said_none : (sh : Shape) → blank sh ≡ said sh []
unfolding said
said_none sh =
    let teams = each_same {X = Option Entrant} 96 None in
    let caps = each_same {X = Option ℕ} 65 None in
    let bars = each_same {X = Option ℕ} 96 None in
    let scripts = each_same {X = Option (List ℕ)} 6 None in
    cc

-- a pair behind those listed
set_pairs : (ps : List (ℕ × ℕ)) (p : ℕ × ℕ) → length ps < 64
    → set (ps ++ replicate (64 - length ps) (0, 0)) (length ps) p ≡ (ps ++ p ∷ []) ++ replicate (64 - length (ps ++ p ∷ [])) (0, 0)
set_pairs ps p h =
    let n = 64 - (length ps + 1) in
    let e : 64 - length ps ≡ suc n = omega arith in
    let z : length ps - length ps ≡ 0 = omega arith in
    let k : length (ps ++ p ∷ []) ≡ length ps + 1 = length-append ps (p ∷ []) in
    ap (λ m. set (ps ++ replicate m (0, 0)) (length ps) p) e
    ∙ set-append_right ps (replicate (suc n) (0, 0)) (length ps) (length ps) p refl (omega arith)
    ∙ ap (λ m. ps ++ set (replicate (suc n) (0, 0)) m p) z
    ∙ sym (append_assoc ps (p ∷ []) (replicate n (0, 0)))
    ∙ ap (λ m. (ps ++ p ∷ []) ++ replicate (64 - m) (0, 0)) (sym k)

-- one record more
pub said_more : (sh : Shape) (rs : List Record) (r : Record) → Sized sh.groups sh.pots → Fits sh r → Room rs r → taken (said sh rs) r ≡ said sh (r ∷ rs)
unfolding said
said_more sh rs (ShapeRecord g p) z f m = refl
said_more sh rs (Team pot ball a c) z f m =
    let e = set_for 96 (16 * pot + ball) (λ n. found (team_in n) rs) (entrant a c) (ball_number sh pot ball z f.0) in
    cc
said_more sh rs (Pair a b) z f m =
    let e = set_pairs (pairs_in rs) (a, b) m in
    let k : length (pairs_in rs ++ (a, b) ∷ []) ≡ length (pairs_in rs) + 1 = length-append (pairs_in rs) ((a, b) ∷ []) in
    cc
said_more sh rs (Cap a n) z f m =
    let e = set_for 65 a (λ k. found (cap_in k) rs) n (omega arith) in
    cc
said_more sh rs (Bars n g) z f m =
    let e = set_for 96 n (λ k. found (bars_in k) rs) g (omega arith) in
    cc
said_more sh rs (Seed x) z f m = refl
said_more sh rs (Script pot o) z f m =
    let e = set_for 6 pot (λ k. found (script_in k) rs) o (omega arith) in
    cc
said_more sh rs End z f m = refl
