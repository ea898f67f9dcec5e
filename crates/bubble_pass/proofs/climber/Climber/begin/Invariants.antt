use Rattle.std.proofs.Common.{take}
use Rattle.arena_model.specs.RowLeaves.{column_leaves}
use Rattle.bubble_pass.specs.Ends.{IsQueueing}
use Rattle.bubble_pass.proofs.climber.Climber.begin.Given as goal

abbrev pub invariant-loop-column : goal.invariant-loop-column
invariant-loop-column l = IsQueueing l.arena (take l.column-index (column_leaves l.row)) l.self
