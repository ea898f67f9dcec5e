use Rattle.std.proofs.Common.{◌≡◌, length}
use Rattle.every_order_tests.proofs.tests.small.matrix_of.Given as goal

abbrev pub invariant-loop-number : goal.invariant-loop-number
invariant-loop-number l = record { columns : l.m.columns ≡ l.columns; rows : length l.m.rows ≡ l.number-index }
