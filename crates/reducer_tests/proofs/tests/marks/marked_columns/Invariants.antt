use Rattle.row_model.specs.Rows.{IsRow}
use Rattle.reducer_tests.proofs.tests.marks.marked_columns.Given as goal

abbrev pub invariant-loop-before : goal.invariant-loop-before
invariant-loop-before l = IsRow l.before l.row.items
