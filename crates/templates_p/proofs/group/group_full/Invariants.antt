use Rattle.templates_p.specs.Steps.{Gathering}
use Rattle.templates_p.proofs.group.group_full.Given as goal

abbrev pub invariant-loop-left : goal.invariant-loop-left
invariant-loop-left g l = Gathering l.fn.arena l.arena l.work l.node.index l.group.index l.left l.next l.fn.steps l.steps

abbrev pub decreases-loop-left : goal.decreases-loop-left
decreases-loop-left g l = l.left
