use Rattle.std.proofs.Common.{◌+◌, ◌*◌, ◌≤◌, length}
use Rattle.border_ways.proofs.borders.columns_near.Given as goal

abbrev pub invariant-loop-border : goal.invariant-loop-border
invariant-loop-border l = length l.columns.items + 8 * l.border-iterator.n ≤ 64
