use Rattle.row_model.proofs.PositionLemmas.{HasPositions}
use Rattle.row_model.proofs.order.positions.Given as goal

abbrev pub invariant-loop-i : goal.invariant-loop-i
invariant-loop-i l = HasPositions l.order l.positions.items l.i
