use Rattle.std.proofs.Common.{◌≡◌, ◌+◌}
use Rattle.border_ways.proofs.ways.end_of.Given as goal

abbrev pub invariant-loop-halt : goal.invariant-loop-halt
invariant-loop-halt g l = l.steps + l.left ≡ l.fn.steps + l.fn.left

abbrev pub decreases-loop-halt : goal.decreases-loop-halt
decreases-loop-halt g l = l.left
