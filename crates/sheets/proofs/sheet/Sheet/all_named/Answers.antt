use Rattle.std.proofs.Common.{rules}
use Rattle.std.proofs.iter.runs.Sources.{ranges}
use Rattle.orders.proofs.Scans.{all_told}
use Rattle.sheets.specs.Taking.{named}
use Rattle.sheets.proofs.sheet.Sheet.all_named.Goals as goal

pub returns : goal.returns
returns c = all_told (named c.args.self.now) 96 c.all.result (search (rules, ranges))
