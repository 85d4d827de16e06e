use Rattle.std.proofs.Common.{rules}
use Rattle.std.proofs.iter.runs.Sources.{ranges}
use Rattle.orders.proofs.Scans.{all_told}
use Rattle.sheets.specs.Taking.{scripted_in}
use Rattle.sheets.proofs.sheet.Sheet.all_scripts.Goals as goal

pub returns : goal.returns
returns c = all_told (scripted_in c.args.self.now) 6 c.all.result (search (rules, ranges))
