use Rattle.std.proofs.Common.{arith}
use Rattle.std.proofs.lemmas.List.{append_assoc}
use Rattle.faults.specs.Text.{refused_text}
use Rattle.faults.proofs.Lines.{line_short}
use Rattle.faults.proofs.Fault.line.Goals as goal

pub returns-clause-text : goal.returns-clause-text
unfolding refused_text
returns-clause-text c = simp (c.push_str-7.ensures.bytes, c.push_str-6.ensures.bytes, c.push_str-5.ensures.bytes, c.push_str-4.ensures.bytes, c.push_str-3.ensures.bytes, c.push_str-2.ensures.bytes, c.push_str.ensures.bytes, c.new-line.ensures, c.format.ensures.text, c.format-2.ensures.text, c.format-3.ensures.text, c.number.ensures, append_assoc)

pub returns-clause-short : goal.returns-clause-short
returns-clause-short c = rw (returns-clause-text c) (line_short c.args.self (omega arith) (omega arith))
