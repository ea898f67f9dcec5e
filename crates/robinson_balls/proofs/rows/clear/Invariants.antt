use Rattle.std.proofs.Common.{◌≡◌, ◌-◌, length}
use Rattle.robinson_balls.proofs.rows.clear.Given as goal

abbrev pub invariant-loop-k : goal.invariant-loop-k
invariant-loop-k l = record {
  columns : l.matrix.columns ≡ l.fn.matrix.columns;
  left : length l.matrix.rows ≡ length l.fn.matrix.rows - l._k;
}
