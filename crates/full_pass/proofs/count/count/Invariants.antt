use Rattle.std.proofs.Common.{◌+◌, ◌*◌, ◌≤◌, length, drop}
use Rattle.pq_arena.specs.RowNodes.{column_leaves}
use Rattle.full_pass.specs.Passing.{Counting}
use Rattle.full_pass.proofs.count.count.Given as goal

abbrev pub invariant-loop-column : goal.invariant-loop-column
invariant-loop-column g l = record {
  counting : Counting l.arena (column_leaves l.row) l.labels l.tallies l.fn.stamp (column_leaves (drop l.column-index l.row)) l.parts l.last;
  ticks : l.steps + 2 * l.parts ≤ l.fn.steps + 2 * length l.row + 2 * l.column-index;
}
