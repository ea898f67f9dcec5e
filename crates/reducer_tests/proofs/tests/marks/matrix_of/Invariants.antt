use Rattle.std.proofs.Common.{◌≡◌, length}
use Rattle.reducer_tests.proofs.tests.marks.matrix_of.Given as goal

abbrev pub invariant-loop-digits : goal.invariant-loop-digits
invariant-loop-digits l = (l.m.columns ≡ l.columns) × (length l.m.rows ≡ l.digits-index)
