use Rattle.std.proofs.Common.{◌↔◌, drop}
use Rattle.row_model.specs.Rows.{Ascends}
use Rattle.core_text.specs.Cores.{AreRowNumbers}
use Rattle.verdict_judge.proofs.core_check.are_row_numbers.Given as goal

-- the numbers are right where those that are left are
abbrev pub invariant-loop-k : goal.invariant-loop-k
invariant-loop-k l = AreRowNumbers l.count l.rows ↔ Ascends l.count l.low (drop l.k-index l.rows)
