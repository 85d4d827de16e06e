use Rattle.std.proofs.Common.{rules}
use Rattle.std.proofs.iter.runs.Sources.{ranges}
use Rattle.orders.proofs.Scans.{any_told}
use Rattle.sheets.specs.Taking.{scripted}
use Rattle.sheets.proofs.sheet.Sheet.any_script.Goals as goal

pub returns : goal.returns
returns c = any_told (scripted c.args.self.now) 6 c.any.result (search (rules, ranges))
