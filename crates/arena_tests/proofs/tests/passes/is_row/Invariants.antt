use Rattle.std.proofs.Common.{drop}
use Rattle.row_model.specs.Rows.{Ascends}
use Rattle.arena_tests.proofs.tests.passes.is_row.Given as goal

abbrev pub invariant-loop-column : goal.invariant-loop-column
invariant-loop-column l = Ascends l.columns l.low (drop l.column-index l.row) → Ascends l.columns 0 l.row
