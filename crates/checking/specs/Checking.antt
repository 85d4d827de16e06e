-- What a program learns of a reading. Assumes nothing.
use Rattle.std.specs.Prelude.{Ok, Err, Result}
use Rattle.faults.specs.declared.Fault.{Fault}
use Rattle.records.specs.declared.refusal.SheetFault.{SheetFault}
use Rattle.records.specs.Refusals.{raised}
use Rattle.sheets.specs.declared.sheet.Sheet.{Sheet}

-- the sheet record as it was read, or the fault as the layers above know it
abbrev pub told_above : Result Sheet SheetFault → Result Sheet Fault
told_above (Ok s) = Ok s
told_above (Err f) = Err (raised f)
