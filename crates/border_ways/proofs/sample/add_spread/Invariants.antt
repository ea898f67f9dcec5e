use Rattle.std.proofs.Common.{◌+◌, ◌≤◌, length}
use Rattle.border_ways.proofs.sample.add_spread.Given as goal

abbrev pub invariant-loop-column : goal.invariant-loop-column
invariant-loop-column l = length l.few.items + l.column-iterator.n ≤ length l.fn.few.items + 16
