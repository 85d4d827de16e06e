-- The refusals of a sheet and their numbers. Assumes nothing.
use Rattle.std.specs.Prelude.{ℕ}
use Rattle.faults.specs.declared.Fault.{Fault}
use Rattle.faults.specs.declared.Layer.TheVariants.{Reading}
use Rattle.records.specs.declared.refusal.SheetFault.{SheetFault}
use Rattle.records.specs.declared.refusal.SheetRefusal.{SheetRefusal}
use Rattle.records.specs.declared.refusal.SheetRefusal.TheVariants.{UnknownKind, CutShort, ShapeMisplaced, OutOfRange, Repeated, TooManyPairs, NotAnOrder, BytesAfterEnd, Incomplete}

abbrev pub number_of : SheetRefusal → ℕ
number_of UnknownKind = 1
number_of CutShort = 2
number_of ShapeMisplaced = 3
number_of OutOfRange = 4
number_of Repeated = 5
number_of TooManyPairs = 6
number_of NotAnOrder = 7
number_of BytesAfterEnd = 8
number_of Incomplete = 9

abbrev pub fault : SheetRefusal → ℕ → SheetFault
fault why at = record { refusal = why; place = at }

-- a fault of a sheet, as the layers above know it
abbrev pub raised : SheetFault → Fault
raised f = record { layer = Reading; number = number_of f.refusal; place = f.place }
