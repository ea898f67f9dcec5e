use Rattle.unit_model.proofs.DrawnLemmas.{IsDrawn}
use Rattle.unit_model.proofs.rule.left_ends.Given as goal

abbrev pub invariant-loop-i : goal.invariant-loop-i
invariant-loop-i l = IsDrawn l.g l.order l.drawing.levels.items l.drawing.before.items l.drawing.lefts.items l.start l.i
