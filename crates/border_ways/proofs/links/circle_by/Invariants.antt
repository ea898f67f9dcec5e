use Rattle.std.proofs.Common.{◌+◌, ◌≤◌, length}
use Rattle.border_ways.proofs.links.circle_by.Given as goal

abbrev pub invariant-loop-link : goal.invariant-loop-link
invariant-loop-link l = length l.links.items ≤ length l.initial.links.items + l.link-index
