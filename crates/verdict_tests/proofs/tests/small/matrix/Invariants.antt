use Rattle.std.proofs.Common.{◌≡◌, All, length}
use Rattle.row_model.specs.Rows.{IsRow}
use Rattle.verdict_tests.proofs.tests.small.matrix.Given as goal

abbrev pub invariant-loop-row : goal.invariant-loop-row
invariant-loop-row l = (l.m.columns ≡ l.columns) × (length l.m.rows ≡ l.row-index) × All (λ row. IsRow l.columns row.now) l.rows
