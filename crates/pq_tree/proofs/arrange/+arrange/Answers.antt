use Rattle.std.proofs.lemmas.Result.{IfOk-weaker}
use Rattle.pq_tree.specs.Arranged.{outline_in}
use Rattle.pq_tree.specs.Proper.{outline_of}
use Rattle.pq_tree.proofs.Canonical.{equivalent_leaf, equivalent_P, equivalent_Q, equivalent_step, equivalent_more}
use Rattle.pq_tree.proofs.arrange.+arrange.Goals as goal

pub arranged_tree-returns-in-Leaf : goal.arranged_tree-returns-in-Leaf
arranged_tree-returns-in-Leaf t c = equivalent_leaf _ _ _ c.in-Leaf.is c.leaf.ensures

pub arranged_tree-returns-in_ok-arranged_trees-in-P : goal.arranged_tree-returns-in_ok-arranged_trees-in-P
arranged_tree-returns-in_ok-arranged_trees-in-P t c =
    IfOk-weaker c.p.result _ _ (λ a. equivalent_P _ _ _ _ _ c.in-P.is c.deref.ensures.value c.in_ok-arranged_trees-in-P.ensures) c.p.ensures

pub arranged_tree-returns-in_ok-arranged_children-in-Q : goal.arranged_tree-returns-in_ok-arranged_children-in-Q
arranged_tree-returns-in_ok-arranged_children-in-Q t c =
    equivalent_Q _ _ _ _ _ c.in-Q.is c.deref-in-Q.ensures.value c.in_ok-arranged_children-in-Q.ensures c.into_q.ensures

pub arranged_trees-loop-tree-preserved : goal.arranged_trees-loop-tree-preserved
arranged_trees-loop-tree-preserved t c =
    equivalent_step outline_in _ _ _ _ _ _ c.loop-tree-test.true c.tree-item.is c.in_ok-push.ensures.items c.loop-tree.invariant c.in_ok-arranged_tree.ensures

pub arranged_children-loop-tree-preserved : goal.arranged_children-loop-tree-preserved
arranged_children-loop-tree-preserved t c =
    equivalent_more outline_of _ _ _ _ _ _ _ c.loop-tree-test.true c.tree-item.is c.in_ok-push.ensures.ok c.loop-tree.invariant c.in_ok-arranged_tree.ensures
