use Rattle.std.proofs.Common.{◌≡◌, map, take}
use Rattle.odd_cycle.specs.Short.{columns_of}
use Rattle.odd_cycle.proofs.sorted.sorted_columns.Given as goal

abbrev pub invariant-loop-line : goal.invariant-loop-line
invariant-loop-line l = l.pairs.items ≡ map columns_of (take l.line-index l.lines)
