use Rattle.std.proofs.Common.{◌≡◌, ◌+◌, ◌*◌, ◌≤◌, length}
use Rattle.border_ways.proofs.links.odd_links.Given as goal

abbrev pub invariant-loop-pivot : goal.invariant-loop-pivot
invariant-loop-pivot g l = record { ticks : l.steps + l.left ≡ l.fn.steps + l.fn.left; few : length l.ways.items ≤ 32 * l.pivot-index }

abbrev pub invariant-loop-member : goal.invariant-loop-member
invariant-loop-member g l = record { ticks : l.steps + l.left ≡ l.fn.steps + l.fn.left; few : length l.ways.items ≤ length l.initial.ways.items + l.member-index }
