-- A sheet in the format's own words: which bytes are a sheet, what it says, and which fault other bytes have.
-- It names no part of the reader. Assumes nothing.
use Rattle.std.specs.Prelude.{◌≡◌, ℕ, ◌+◌, ◌-◌, ◌*◌, ◌^◌, ◌<◌, ◌≤◌, cond, ◌⊎◌, List, [], ◌∷◌, ◌++◌, map, length, replicate, Some, None, Ok, Err, Option, Result, ◌==◌, ◌≢◌, slice_index}
use Rattle.std.specs.List.{range_with_len}
use Rattle.shapes.specs.declared.Shape.{Shape}
use Rattle.shapes.specs.Teams.{Sized, balls_of, HasTeam}
use Rattle.orders.specs.Orders.{OrderOf}
use Rattle.records.specs.declared.refusal.SheetFault.{SheetFault}
use Rattle.records.specs.declared.refusal.SheetRefusal.{SheetRefusal}
use Rattle.records.specs.declared.refusal.SheetRefusal.TheVariants.{UnknownKind, CutShort, ShapeMisplaced, OutOfRange, Repeated, TooManyPairs, NotAnOrder, BytesAfterEnd, Incomplete}
use Rattle.records.specs.declared.item.Record.{Record}
use Rattle.records.specs.declared.item.Record.TheVariants.{Shape as ShapeRecord, Team, Pair, Cap, Bars, Seed, Script, End}
use Rattle.records.specs.Forms.{Form, body_of}
use Rattle.sheets.specs.declared.sheet.Sheet.{Sheet}
use Rattle.sheets.specs.declared.sheet.Entrant.{Entrant}
use Rattle.sheets.specs.Entrants.{entrant, code_in, association_in, code_of, association_of}

-- Records one after the other

-- the bytes are those of the records, one after the other; the latest record is named first
abbrev pub Spelt : List Record → List ℕ → Type 0
Spelt [] bs = bs ≡ []
Spelt (r ∷ rs) bs = (before : List ℕ) × (last : List ℕ) × Spelt rs before × Form r last × (bs ≡ before ++ last)

-- the record stands at the front of the bytes
abbrev pub Front : Record → List ℕ → Type 0
Front r bs = (own : List ℕ) × (rest : List ℕ) × Form r own × (bs ≡ own ++ rest)

-- the bytes begin with a kind that no record has
abbrev pub Unknown : List ℕ → Type 0
Unknown bs = (kind : ℕ) × (rest : List ℕ) × (bs ≡ kind ∷ rest) × (body_of kind ≡ None)

-- no byte is there, or a record begins and its body is cut short
abbrev pub Short : List ℕ → Type 0
Short bs =
    (bs ≡ [])
    ⊎ ((kind : ℕ) × (rest : List ℕ) × (n : ℕ) × (bs ≡ kind ∷ rest) × (body_of kind ≡ Some n) × (length rest < n))

-- What records say

abbrev pub or_else : {X : Type 0} → Option X → Option X → Option X
or_else (Some x) o = Some x
or_else None o = o

-- nothing was said; something was
abbrev pub Missing : {X : Type 0} → Option X → Type 0
Missing o = o ≡ None

abbrev pub Given : {X : Type 0} → Option X → Type 0
Given o = o ≡ None → ⊥

-- what the latest of the records says that says anything of it
abbrev pub found : {X : Type 0} → (Record → Option X) → List Record → Option X
found says [] = None
found says (r ∷ rs) = or_else (says r) (found says rs)

-- x where a record is of the number that is asked for
abbrev pub for : {X : Type 0} → ℕ → ℕ → X → Option X
for asked n x = cond (n == asked) (Some x) None

-- a T names its team's code, and its association unless that is 0
abbrev pub team_in : ℕ → Record → Option Entrant
team_in n (ShapeRecord g p) = None
team_in n (Team pot ball a c) = for n (16 * pot + ball) (entrant a c)
team_in n (Pair a b) = None
team_in n (Cap a m) = None
team_in n (Bars t g) = None
team_in n (Seed x) = None
team_in n (Script pot o) = None
team_in n End = None

abbrev pub cap_in : ℕ → Record → Option ℕ
cap_in n (ShapeRecord g p) = None
cap_in n (Team pot ball a c) = None
cap_in n (Pair a b) = None
cap_in n (Cap a m) = for n a m
cap_in n (Bars t g) = None
cap_in n (Seed x) = None
cap_in n (Script pot o) = None
cap_in n End = None

abbrev pub bars_in : ℕ → Record → Option ℕ
bars_in n (ShapeRecord g p) = None
bars_in n (Team pot ball a c) = None
bars_in n (Pair a b) = None
bars_in n (Cap a m) = None
bars_in n (Bars t g) = for n t g
bars_in n (Seed x) = None
bars_in n (Script pot o) = None
bars_in n End = None

abbrev pub seed_in : Record → Option ℕ
seed_in (ShapeRecord g p) = None
seed_in (Team pot ball a c) = None
seed_in (Pair a b) = None
seed_in (Cap a m) = None
seed_in (Bars t g) = None
seed_in (Seed x) = Some x
seed_in (Script pot o) = None
seed_in End = None

abbrev pub script_in : ℕ → Record → Option (List ℕ)
script_in n (ShapeRecord g p) = None
script_in n (Team pot ball a c) = None
script_in n (Pair a b) = None
script_in n (Cap a m) = None
script_in n (Bars t g) = None
script_in n (Seed x) = None
script_in n (Script pot o) = for n pot o
script_in n End = None

-- the pairs before, and an X's behind them
abbrev pub and_pair : Record → List (ℕ × ℕ) → List (ℕ × ℕ)
and_pair (ShapeRecord g p) ps = ps
and_pair (Team pot ball a c) ps = ps
and_pair (Pair a b) ps = ps ++ (a, b) ∷ []
and_pair (Cap a m) ps = ps
and_pair (Bars t g) ps = ps
and_pair (Seed x) ps = ps
and_pair (Script pot o) ps = ps
and_pair End ps = ps

-- the pairs that the records list, in the sheet's order
abbrev pub pairs_in : List Record → List (ℕ × ℕ)
pairs_in [] = []
pairs_in (r ∷ rs) = and_pair r (pairs_in rs)

-- f 0, f 1 and so on, n of them
unfoldable pub each : {X : Type 0} → ℕ → (ℕ → X) → List X
each n f = map f (range_with_len 0 n)

-- the sheet record that a shape and records make: what they say of each number, and nothing where they say nothing
unfoldable pub said : Shape → List Record → Sheet
said sh rs = record {
  shape = sh;
  teams = each 96 (λ n. found (team_in n) rs);
  pairs = pairs_in rs ++ replicate (64 - length (pairs_in rs)) (0, 0);
  listed = length (pairs_in rs);
  caps = each 65 (λ a. found (cap_in a) rs);
  bars = each 96 (λ n. found (bars_in n) rs);
  seed = found seed_in rs;
  scripts = each 6 (λ pot. found (script_in pot) rs);
}

-- The conditions on a record after the first

abbrev pub Capital : ℕ → Type 0
Capital x = (65 ≤ x) × (x ≤ 90)

-- each field is in range
abbrev pub Fits : Shape → Record → Type 0
Fits sh (ShapeRecord g p) = Unit {0}
Fits sh (Team pot ball a c) =
    (ball < balls_of sh pot) × (a ≤ 64) × (Capital (slice_index c 0) × Capital (slice_index c 1) × Capital (slice_index c 2))
Fits sh (Pair a b) = (a ≢ b) × HasTeam sh a × HasTeam sh b
Fits sh (Cap a m) = ((1 ≤ a) × (a ≤ 64)) × ((1 ≤ m) × (m ≤ 6))
Fits sh (Bars n g) = HasTeam sh n × (g < 2 ^ sh.groups)
Fits sh (Seed x) = Unit {0}
Fits sh (Script pot o) = pot < sh.pots
Fits sh End = Unit {0}

-- no earlier T or B for the team, C for the association, S for the pot, or U
abbrev pub Fresh : List Record → Record → Type 0
Fresh rs (ShapeRecord g p) = Unit {0}
Fresh rs (Team pot ball a c) = Missing (found (team_in (16 * pot + ball)) rs)
Fresh rs (Pair a b) = Unit {0}
Fresh rs (Cap a m) = Missing (found (cap_in a) rs)
Fresh rs (Bars n g) = Missing (found (bars_in n) rs)
Fresh rs (Seed x) = Missing (found seed_in rs)
Fresh rs (Script pot o) = Missing (found (script_in pot) rs)
Fresh rs End = Unit {0}

-- a pair is at most the 64th
abbrev pub Room : List Record → Record → Type 0
Room rs (ShapeRecord g p) = Unit {0}
Room rs (Team pot ball a c) = Unit {0}
Room rs (Pair a b) = length (pairs_in rs) < 64
Room rs (Cap a m) = Unit {0}
Room rs (Bars n g) = Unit {0}
Room rs (Seed x) = Unit {0}
Room rs (Script pot o) = Unit {0}
Room rs End = Unit {0}

-- a script is an order of its pot
abbrev pub Ordered : Shape → Record → Type 0
Ordered sh (ShapeRecord g p) = Unit {0}
Ordered sh (Team pot ball a c) = Unit {0}
Ordered sh (Pair a b) = Unit {0}
Ordered sh (Cap a m) = Unit {0}
Ordered sh (Bars n g) = Unit {0}
Ordered sh (Seed x) = Unit {0}
Ordered sh (Script pot o) = OrderOf (balls_of sh pot) o
Ordered sh End = Unit {0}

-- the record is a G
abbrev pub IsShape : Record → Type 0
IsShape r = (g : ℕ) × (p : ℕ) × (r ≡ ShapeRecord g p)

-- neither a G nor the end
abbrev pub Inner : Record → Type 0
Inner r = (IsShape r → ⊥) × (r ≢ End)

-- a record that may come after these
pub record Next (sh : Shape) (rs : List Record) (r : Record) : Type 0 where
  pub inner : Inner r
  pub fits : Fits sh r
  pub fresh : Fresh rs r
  pub room : Room rs r
  pub ordered : Ordered sh r

-- each of the records may come after those before it
abbrev pub Kept : Shape → List Record → Type 0
Kept sh [] = Unit {0}
Kept sh (r ∷ rs) = Next sh rs r × Kept sh rs

-- What has to be there at the end

-- a U, and no S for any of the pots, which are six at most
abbrev pub FromUrn : List Record → Type 0
FromUrn rs = Given (found seed_in rs) × ((pot : ℕ) → pot < 6 → Missing (found (script_in pot) rs))

-- no U, and an S for each pot of the shape
abbrev pub FromScripts : Shape → List Record → Type 0
FromScripts sh rs = Missing (found seed_in rs) × ((pot : ℕ) → pot < sh.pots → Given (found (script_in pot) rs))

-- each team of the shape has its T, and the balls have one source
pub record Whole (sh : Shape) (rs : List Record) : Type 0 where
  pub named : (n : ℕ) → HasTeam sh n → Given (found (team_in n) rs)
  pub source : FromUrn rs ⊎ FromScripts sh rs

-- Sheets

-- the bytes begin with a G in range and records that may come so; the rest begins at a place
pub record Begun (bs : List ℕ) (sh : Shape) (rs : List Record) (place : ℕ) (rest : List ℕ) : Type 0 where
  pub sized : Sized sh.groups sh.pots
  pub kept : Kept sh rs
  pub body : List ℕ
  pub spelt : Spelt rs body
  pub bytes : bs ≡ 71 ∷ sh.groups ∷ sh.pots ∷ (body ++ rest)
  pub at : place ≡ 3 + length body

-- the bytes are a sheet, and this is what it says
pub record Accepted (bs : List ℕ) (t : Sheet) : Type 0 where
  pub shape : Shape
  pub records : List Record
  pub place : ℕ
  pub begun : Begun bs shape records place (90 ∷ [])
  pub whole : Whole shape records
  pub says : t ≡ said shape records
  pub codes : (n : ℕ) → n < 96 → code_of t n ≡ code_in (found (team_in n) records)
  pub associations : (n : ℕ) → n < 96 → association_of t n ≡ association_in (found (team_in n) records)

-- Faults

-- what is wrong at the front of a sheet
abbrev pub FailsFirst : SheetRefusal → List ℕ → Type 0
FailsFirst UnknownKind bs = Unknown bs
FailsFirst CutShort bs = Short bs
FailsFirst ShapeMisplaced bs = (r : Record) × Front r bs × (IsShape r → ⊥)
FailsFirst OutOfRange bs =
    (g : ℕ) × (p : ℕ) × (rest : List ℕ) × (bs ≡ 71 ∷ g ∷ p ∷ rest) × (Sized g p → ⊥)
FailsFirst Repeated bs = ⊥
FailsFirst TooManyPairs bs = ⊥
FailsFirst NotAnOrder bs = ⊥
FailsFirst BytesAfterEnd bs = ⊥
FailsFirst Incomplete bs = ⊥

-- what is wrong with the rest after records in order
abbrev pub Fails : SheetRefusal → Shape → List Record → List ℕ → Type 0
Fails UnknownKind sh rs rest = Unknown rest
Fails CutShort sh rs rest = Short rest
Fails ShapeMisplaced sh rs rest = (r : Record) × Front r rest × IsShape r
Fails OutOfRange sh rs rest = (r : Record) × Front r rest × Inner r × (Fits sh r → ⊥)
Fails Repeated sh rs rest = (r : Record) × Front r rest × Inner r × Fits sh r × (Fresh rs r → ⊥)
Fails TooManyPairs sh rs rest = (r : Record) × Front r rest × Inner r × Fits sh r × Fresh rs r × (Room rs r → ⊥)
Fails NotAnOrder sh rs rest =
    (r : Record) × Front r rest × Inner r × Fits sh r × Fresh rs r × Room rs r × (Ordered sh r → ⊥)
Fails BytesAfterEnd sh rs rest = (next : ℕ) × (more : List ℕ) × (rest ≡ 90 ∷ next ∷ more)
Fails Incomplete sh rs rest = (rest ≡ 90 ∷ []) × (Whole sh rs → ⊥)

-- how far behind the beginning of the rest the fault's place is: for bytes after Z, behind that Z
abbrev pub beyond : SheetRefusal → ℕ
beyond UnknownKind = 0
beyond CutShort = 0
beyond ShapeMisplaced = 0
beyond OutOfRange = 0
beyond Repeated = 0
beyond TooManyPairs = 0
beyond NotAnOrder = 0
beyond BytesAfterEnd = 1
beyond Incomplete = 0

-- records in order, and then one at fault
pub record FailsLater (bs : List ℕ) (f : SheetFault) : Type 0 where
  pub shape : Shape
  pub records : List Record
  pub place : ℕ
  pub rest : List ℕ
  pub begun : Begun bs shape records place rest
  pub fails : Fails f.refusal shape records rest
  pub at : f.place ≡ place + beyond f.refusal

-- the bytes are no sheet, and this is their first fault
abbrev pub Refused : List ℕ → SheetFault → Type 0
Refused bs f = (FailsFirst f.refusal bs × (f.place ≡ 0)) ⊎ FailsLater bs f

-- each of two follows from the other
abbrev pub Iff : Type 0 → Type 0 → Type 0
Iff P Q = (P → Q) × (Q → P)

-- what is read of the bytes: a sheet's record exactly where they are that sheet, a fault exactly where that is their first
pub record Exact (bs : List ℕ) (o : Result Sheet SheetFault) : Type 0 where
  pub accepted : (t : Sheet) → Iff (Accepted bs t) (o ≡ Ok t)
  pub refused : (f : SheetFault) → Iff (Refused bs f) (o ≡ Err f)

-- what a reading into a caller's record told: the record, or the fault
abbrev pub told : Result (Unit {0}) SheetFault → Sheet → Result Sheet SheetFault
told (Ok u) t = Ok t
told (Err f) t = Err f
