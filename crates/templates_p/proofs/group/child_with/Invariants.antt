use Rattle.templates_p.specs.Steps.{Searching}
use Rattle.templates_p.proofs.group.child_with.Given as goal

abbrev pub invariant-loop-left : goal.invariant-loop-left
invariant-loop-left l = Searching l.arena l.work l.fn.node.index l.label l.skip.index l.left l.next

abbrev pub decreases-loop-left : goal.decreases-loop-left
decreases-loop-left l = l.left
