use Rattle.std.proofs.Common.{◌+◌, ◌≤◌, length}
use Rattle.border_ways.proofs.around.add_forth.Given as goal

abbrev pub invariant-loop-halt : goal.invariant-loop-halt
invariant-loop-halt l = length l.lines.items ≤ length l.fn.lines.items + l.halt-index
