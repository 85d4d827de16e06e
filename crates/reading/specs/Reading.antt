-- What is read of a sheet, record by record from the front. Assumes nothing.
use Rattle.std.specs.Prelude.{ℕ, zero, suc, ◌+◌, cond, List, length, drop, Some, None, Ok, Err, Option, Result, nat_lt}
use Rattle.shapes.specs.declared.Shape.{Shape}
use Rattle.shapes.specs.Teams.{shape_of}
use Rattle.records.specs.declared.refusal.SheetFault.{SheetFault}
use Rattle.records.specs.declared.refusal.SheetRefusal.TheVariants.{CutShort, ShapeMisplaced, OutOfRange, BytesAfterEnd, Incomplete}
use Rattle.records.specs.declared.item.Record.{Record}
use Rattle.records.specs.declared.item.Record.TheVariants.{Shape as ShapeRecord, Team, Pair, Cap, Bars, Seed, Script, End}
use Rattle.records.specs.Forms.{decoded, size_of}
use Rattle.records.specs.Refusals.{fault}
use Rattle.sheets.specs.declared.sheet.Sheet.{Sheet}
use Rattle.sheets.specs.Taking.{blank, verdict, taken, is_whole}

-- go on with what came of a step, or keep its fault
abbrev pub bind : {X Y : Type 0} → Result X SheetFault → (X → Result Y SheetFault) → Result Y SheetFault
bind (Ok x) f = f x
bind (Err e) f = Err e

abbrev pub started : Option Shape → Result Sheet SheetFault
started (Some sh) = Ok (blank sh)
started None = Err (fault OutOfRange 0)

-- the first record must be the shape
abbrev pub shaped : Record → Result Sheet SheetFault
shaped (ShapeRecord g p) = started (shape_of g p)
shaped (Team pot ball a c) = Err (fault ShapeMisplaced 0)
shaped (Pair a b) = Err (fault ShapeMisplaced 0)
shaped (Cap a m) = Err (fault ShapeMisplaced 0)
shaped (Bars n g) = Err (fault ShapeMisplaced 0)
shaped (Seed x) = Err (fault ShapeMisplaced 0)
shaped (Script pot o) = Err (fault ShapeMisplaced 0)
shaped End = Err (fault ShapeMisplaced 0)

abbrev pub opened : List ℕ → Result Sheet SheetFault
opened bs = bind (decoded bs 0) shaped

-- the answer to an end record at a place of a sheet of len bytes
abbrev pub closed : Sheet → ℕ → ℕ → Result (Unit {0}) SheetFault
closed s at len =
    cond (nat_lt (at + 1) len) (Err (fault BytesAfterEnd (at + 1))) (cond (is_whole s) (Ok tt) (Err (fault Incomplete at)))

-- x at the end record, else y
abbrev pub at_end : {X : Type 0} → Record → X → X → X
at_end (ShapeRecord g p) x y = y
at_end (Team pot ball a c) x y = y
at_end (Pair a b) x y = y
at_end (Cap a m) x y = y
at_end (Bars n g) x y = y
at_end (Seed w) x y = y
at_end (Script pot o) x y = y
at_end End x y = x

-- what the records in bs, which begin at a place of a sheet of len bytes, make of the sheet record s,
-- with at most n records to come; the bytes of a sheet are always enough, since a record has one at least
unfoldable pub going : ℕ → Sheet → List ℕ → ℕ → ℕ → Result Sheet SheetFault
going zero s bs at len = Err (fault CutShort at)
going (suc n) s bs at len =
    bind (decoded bs at) (λ r.
    at_end r (bind (closed s at len) (λ _. Ok s))
    (bind (verdict s r at) (λ _. going n (taken s r) (drop (size_of r) bs) (at + size_of r) len)))

unfoldable pub reading : List ℕ → Result Sheet SheetFault
reading bs = bind (opened bs) (λ s. going (length bs) s (drop 3 bs) 3 (length bs))

abbrev pub answered : Result Sheet SheetFault → Result (Unit {0}) SheetFault
answered (Ok s) = Ok tt
answered (Err f) = Err f

-- the caller's record after a reading
abbrev pub filled : Result Sheet SheetFault → Sheet → Sheet
filled (Ok s) old = s
filled (Err f) old = old
