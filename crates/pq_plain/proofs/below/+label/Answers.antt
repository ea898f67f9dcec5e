use Rattle.std.proofs.Common.{◌∙◌, sym}
use Rattle.std.proofs.lemmas.Result.{IfOk-weaker}
use Rattle.pq_plain.proofs.TreeLabels.{labels_length, labels_more, labels_stop, leaf_label, P_none, Q_none, P_some, Q_some}
use Rattle.pq_plain.proofs.below.+label.Goals as goal

pub label_tree-label_p-requires : goal.label_tree-label_p-requires
label_tree-label_p-requires t c =
    labels_length _ _ _ _ _ (c.deref-in-Some.ensures.value ∙ sym c.deref.ensures.value) c.in-Some.is c.in_ok-label_trees-in-P.ensures

pub label_tree-label_q-requires : goal.label_tree-label_q-requires
label_tree-label_q-requires t c =
    labels_length _ _ _ _ _ (c.deref-in-Some-2.ensures.value ∙ sym c.deref-in-Q.ensures.value) c.in-Some-2.is c.in_ok-label_trees-in-Q.ensures

pub label_tree-returns-in-Leaf : goal.label_tree-returns-in-Leaf
label_tree-returns-in-Leaf t c = leaf_label _ _ _ _ c.in-Leaf.is c.label_leaf.ensures

pub label_tree-returns-in-None : goal.label_tree-returns-in-None
label_tree-returns-in-None t c = P_none _ _ _ _ _ c.deref.ensures.value c.in_ok-label_trees-in-P.ensures c.in-P.is c.in-None.is

pub label_tree-returns-in-Some : goal.label_tree-returns-in-Some
label_tree-returns-in-Some t c =
    IfOk-weaker c.label_p.result _ _
    (λ r k. P_some _ _ _ _ _ c.deref.ensures.value c.in_ok-label_trees-in-P.ensures _ _ c.deref-in-Some.ensures.value c.in-Some.is _ c.in-P.is k)
    c.label_p.ensures

pub label_tree-returns-in-None-2 : goal.label_tree-returns-in-None-2
label_tree-returns-in-None-2 t c = Q_none _ _ _ _ _ c.deref-in-Q.ensures.value c.in_ok-label_trees-in-Q.ensures c.in-Q.is c.in-None-2.is

pub label_tree-returns-in-Some-2 : goal.label_tree-returns-in-Some-2
label_tree-returns-in-Some-2 t c =
    IfOk-weaker c.label_q.result _ _
    (λ r k. Q_some _ _ _ _ _ c.deref-in-Q.ensures.value c.in_ok-label_trees-in-Q.ensures _ _ c.deref-in-Some-2.ensures.value c.in-Some-2.is _ c.in-Q.is k)
    c.label_q.ensures

pub label_trees-returns-in-None : goal.label_trees-returns-in-None
label_trees-returns-in-None t c = labels_stop _ _ _ _ _ c.loop-tree-test.true c.tree-item.is c.in-None.is c.in_ok-label_tree.ensures

pub label_trees-loop-tree-preserved : goal.label_trees-loop-tree-preserved
label_trees-loop-tree-preserved t c =
    labels_more _ _ _ _ _ _ _ _ c.loop-tree-test.true c.tree-item.is c.in_ok-push-in-Some.ensures.items c.loop-tree.invariant c.in-Some.is c.in_ok-label_tree.ensures
