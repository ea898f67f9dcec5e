use Rattle.pq_plain.proofs.Picked.{partial_taken, partial_passed}
use Rattle.pq_plain.proofs.children.partial_children.Goals as goal

pub loop-label-preserved-in-Continue-1 : goal.loop-label-preserved-in-Continue-1
loop-label-preserved-in-Continue-1 c =
    partial_taken _ _ c.loop-label.yielded _ _ c.in-Partial.is c.in_ok-push-in-Partial.ensures.items c.loop-label.invariant

pub loop-label-preserved : goal.loop-label-preserved
loop-label-preserved c = partial_passed _ c.loop-label.yielded _ c.in-Empty.is c.loop-label.invariant
