use Rattle.std.proofs.Common.{◌+◌, ◌≤◌, length}
use Rattle.border_ways.proofs.links.path_up.Given as goal

abbrev pub invariant-loop-at : goal.invariant-loop-at
invariant-loop-at l = length l.links.items + l.at ≤ l.from

abbrev pub decreases-loop-at : goal.decreases-loop-at
decreases-loop-at l = l.at
