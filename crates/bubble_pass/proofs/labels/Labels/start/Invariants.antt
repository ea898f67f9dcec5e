use Rattle.std.proofs.Common.{◌-◌, length}
use Rattle.arena_model.specs.RowLeaves.{column_leaves}
use Rattle.bubble_pass.specs.Sweep.{Starting}
use Rattle.bubble_pass.proofs.labels.Labels.start.Given as goal

abbrev pub invariant-loop-i : goal.invariant-loop-i
invariant-loop-i l = Starting l.arena (column_leaves l.row) l.fn.self l.self l.i

abbrev pub decreases-loop-i : goal.decreases-loop-i
decreases-loop-i l = length l.row - l.i
