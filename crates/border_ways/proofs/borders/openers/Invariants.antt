use Rattle.std.proofs.Common.{◌+◌, ◌*◌, ◌≤◌, length}
use Rattle.border_ways.proofs.borders.openers.Given as goal

abbrev pub invariant-loop-a : goal.invariant-loop-a
invariant-loop-a l = length l.rows.items ≤ 64 * l.a-index

abbrev pub invariant-loop-b : goal.invariant-loop-b
invariant-loop-b l = length l.rows.items ≤ length l.initial.rows.items + l.b-index
