use Rattle.std.proofs.Common.{arith}
use Rattle.std.proofs.lemmas.List.{length_push}
use Rattle.border_ways.proofs.around.add_back.Goals as goal

pub loop-halt-init : goal.loop-halt-init
loop-halt-init c = omega arith

pub loop-halt-preserved : goal.loop-halt-preserved
loop-halt-preserved c = omega (arith, c.loop-halt.invariant, c.in_ok-add_line.ensures.few, length_push c.loop-halt.yielded c.in-Some.halt)
