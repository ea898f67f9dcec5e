use Rattle.std.proofs.Common.{◌≤◌, length}
use Rattle.border_ways.proofs.links.spread.Given as goal

abbrev pub invariant-loop-way : goal.invariant-loop-way
invariant-loop-way l = length l.reached.items ≤ 32

abbrev pub invariant-loop-other : goal.invariant-loop-other
invariant-loop-other l = length l.reached.items ≤ 32
