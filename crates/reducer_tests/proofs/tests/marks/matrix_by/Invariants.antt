use Rattle.std.proofs.Common.{◌≡◌, length}
use Rattle.reducer_tests.proofs.tests.marks.matrix_by.Given as goal

abbrev pub invariant-loop : goal.invariant-loop
invariant-loop l = (l.m.columns ≡ l.columns) × (length l.m.rows ≡ l.counter)
