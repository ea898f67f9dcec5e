use Rattle.pq_tree.proofs.Shown.{push_step, push_all, outline_of-Leaf}
use Rattle.pq_tree.proofs.write.+push_leaves.Goals as goal

pub loop-child-preserved : goal.loop-child-preserved
loop-child-preserved t c =
    push_step _ _ _ _ _ _ c.loop-child-test.true c.child-item.is c.loop-child.invariant c.in_ok-push_leaves-in-P.ensures

pub returns-after-loop-child : goal.returns-after-loop-child
returns-after-loop-child t c =
    push_all _ _ _ _ _ _ c.in-P.is c.deref-child-items.ensures.value c.loop-child-test.false c.loop-child.invariant

pub returns-in_ok-push-in-Leaf : goal.returns-in_ok-push-in-Leaf
returns-in_ok-push-in-Leaf t c = rw (c.in-Leaf.is, outline_of-Leaf) c.in_ok-push-in-Leaf.ensures.items
