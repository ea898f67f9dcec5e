use Rattle.others_kept.proofs.Squares.{AddedUp}
use Rattle.others_kept.proofs.square.add_up.Given as goal

abbrev pub invariant-loop-i : goal.invariant-loop-i
invariant-loop-i l = AddedUp l.columns l.i l.initial.counts.items l.counts.items
