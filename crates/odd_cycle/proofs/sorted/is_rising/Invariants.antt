use Rattle.std.proofs.Common.{◌≡◌, Less}
use Rattle.std.specs.List.{AllAdjacentBelow}
use Rattle.odd_cycle.proofs.RisingLaws.{pair_cmp}
use Rattle.odd_cycle.proofs.sorted.is_rising.Given as goal

-- each pair so far is less than the next
abbrev pub invariant-loop-i : goal.invariant-loop-i
invariant-loop-i l = AllAdjacentBelow (λ v w. pair_cmp v w ≡ Less) l.pairs l.i
