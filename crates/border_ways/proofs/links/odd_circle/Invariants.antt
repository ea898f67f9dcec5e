use Rattle.std.proofs.Common.{◌≤◌, length}
use Rattle.border_ways.proofs.links.odd_circle.Given as goal

abbrev pub invariant-loop-head : goal.invariant-loop-head
invariant-loop-head l = length l.reached.items ≤ 32
