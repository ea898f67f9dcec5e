use Rattle.std.proofs.Common.{◌≡◌, ◌+◌, ◌*◌, ◌≤◌, length}
use Rattle.border_ways.proofs.around.walk_around.Given as goal

abbrev pub invariant-loop-link : goal.invariant-loop-link
invariant-loop-link g l = record { ticks : l.steps + l.left ≡ l.fn.steps + l.fn.left; turns : l.fn.steps + length l.lines.items ≤ l.steps + 2 * l.link-index }
