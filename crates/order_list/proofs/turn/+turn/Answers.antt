use Rattle.std.proofs.lemmas.Result.{IfOk-weaker}
use Rattle.pq_tree.proofs.Canonical.{equivalent_step}
use Rattle.order_list.specs.LowTrees.{outline_low}
use Rattle.order_list.proofs.Turned.{equivalent_leaf, equivalent_p, equivalent_q}
use Rattle.order_list.proofs.turn.+turn.Goals as goal

pub low_tree-returns-in-Leaf : goal.low_tree-returns-in-Leaf
low_tree-returns-in-Leaf t c = equivalent_leaf _ _ _ c.in-Leaf.ensures.outline c.low_leaf.ensures

pub low_tree-returns-in_ok-children-in-P : goal.low_tree-returns-in_ok-children-in-P
low_tree-returns-in_ok-children-in-P t c =
    IfOk-weaker c.low_p.result _ _
    (λ a. equivalent_p _ _ _ _ _ c.in-P.ensures.outline c.in_ok-children-in-P.ensures c.sort_by_first.ensures.moved) c.low_p.ensures

pub low_tree-returns-in_ok-children-in-Q : goal.low_tree-returns-in_ok-children-in-Q
low_tree-returns-in_ok-children-in-Q t c =
    IfOk-weaker c.low_q.result _ _
    (λ a. equivalent_q _ _ _ _ _ c.in-Q.ensures.outline c.in_ok-children-in-Q.ensures c.turn_low.ensures.turned) c.low_q.ensures

pub low_trees-loop-tree-preserved : goal.low_trees-loop-tree-preserved
low_trees-loop-tree-preserved t c =
    equivalent_step outline_low _ _ _ _ _ _ c.loop-tree-test.true c.tree-item.is c.in_ok-push.ensures.items c.loop-tree.invariant c.in_ok-low_tree.ensures
