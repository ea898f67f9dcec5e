use Rattle.others_kept.proofs.Squares.{Begun}
use Rattle.others_kept.proofs.square.begin.Given as goal

abbrev pub invariant-loop-place : goal.invariant-loop-place
invariant-loop-place l = Begun l.columns l.fn.span.first l.place l.initial.counts.items l.counts.items
