use Rattle.std.proofs.Common.{ℕ, ◌<◌, get_or}
use Rattle.tables.specs.Tables.{Together}
use Rattle.pairs.proofs.rule.PairsClashRule.admits.Given as goal

abbrev pub invariant-loop-one : goal.invariant-loop-one
invariant-loop-one l = (i : ℕ) → i < l.one-index → Together l.table (get_or l.one-items i (0, 0)).0 (get_or l.one-items i (0, 0)).1 → ⊥
