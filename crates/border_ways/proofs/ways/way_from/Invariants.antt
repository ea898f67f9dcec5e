use Rattle.std.proofs.Common.{◌≡◌, ◌+◌, ◌≤◌, length}
use Rattle.border_ways.proofs.ways.way_from.Given as goal

abbrev pub invariant-loop-halt : goal.invariant-loop-halt
invariant-loop-halt g l = record { ticks : l.steps + l.left ≡ l.fn.steps + l.fn.left; turns : l.fn.steps + length l.way.items ≤ l.steps + 1 }

abbrev pub decreases-loop-halt : goal.decreases-loop-halt
decreases-loop-halt g l = l.left
