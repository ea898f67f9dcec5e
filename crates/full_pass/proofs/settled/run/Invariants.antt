use Rattle.std.proofs.Common.{◌+◌, ◌*◌, ◌≤◌, length, drop}
use Rattle.pq_arena.specs.RowNodes.{column_leaves}
use Rattle.full_pass.specs.Passing.{Going}
use Rattle.full_pass.proofs.settled.run.Given as goal

abbrev pub invariant-loop-column : goal.invariant-loop-column
invariant-loop-column g l = record {
  going : Going l.arena (column_leaves l.row) l.entries (column_leaves (drop l.column-index l.row)) l.parts l.last;
  ticks : l.steps + 2 * l.parts ≤ l.fn.steps + 2 * length l.row + 2 * l.column-index;
}
