use Rattle.odd_cycle.proofs.FoldLaws.{IsCleared}
use Rattle.odd_cycle.proofs.fold.cut.Given as goal

abbrev pub invariant-loop-line : goal.invariant-loop-line
invariant-loop-line l = IsCleared l.fn.numbers l.numbers l.keep l.line-index
