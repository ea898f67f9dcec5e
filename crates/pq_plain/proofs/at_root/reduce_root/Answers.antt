use Rattle.std.proofs.Common.{◌∙◌, sym}
use Rattle.std.proofs.lemmas.Result.{IfOk-weaker}
use Rattle.pq_plain.proofs.TreeLabels.{labels_length, leaf_root, P_root, Q_root, root_P_none, root_Q_none, root_P_some, root_Q_some}
use Rattle.pq_plain.proofs.at_root.reduce_root.Goals as goal

pub root_p-requires-clause-length : goal.root_p-requires-clause-length
root_p-requires-clause-length c =
    labels_length _ _ _ _ _ (c.deref-in-Some.ensures.value ∙ sym c.deref.ensures.value) c.in-Some.is c.in_ok-label_trees-in-P.ensures

pub root_p-requires-clause-root : goal.root_p-requires-clause-root
root_p-requires-clause-root c =
    P_root _ _ _ _ _ c.deref.ensures.value c.in_ok-label_trees-in-P.ensures _ _ c.deref-in-Some.ensures.value c.in-Some.is c.in-P.is c.requires.tree c.requires.lowest

pub root_q-requires-clause-length : goal.root_q-requires-clause-length
root_q-requires-clause-length c =
    labels_length _ _ _ _ _ (c.deref-in-Some-2.ensures.value ∙ sym c.deref-in-Q.ensures.value) c.in-Some-2.is c.in_ok-label_trees-in-Q.ensures

pub root_q-requires-clause-root : goal.root_q-requires-clause-root
root_q-requires-clause-root c =
    Q_root _ _ _ _ _ c.deref-in-Q.ensures.value c.in_ok-label_trees-in-Q.ensures _ _ c.deref-in-Some-2.ensures.value c.in-Some-2.is c.in-Q.is c.requires.tree c.requires.lowest

pub returns-in-Leaf : goal.returns-in-Leaf
returns-in-Leaf c = leaf_root _ _ _ c.in-Leaf.is c.requires.some c.requires.lowest

pub returns-in-None : goal.returns-in-None
returns-in-None c = root_P_none _ _ _ _ _ c.deref.ensures.value c.in_ok-label_trees-in-P.ensures c.in-P.is c.in-None.is

pub returns-in-Some : goal.returns-in-Some
returns-in-Some c =
    IfOk-weaker c.root_p.result _ _
    (λ o k. root_P_some _ _ _ _ _ c.deref.ensures.value c.in_ok-label_trees-in-P.ensures _ _ c.deref-in-Some.ensures.value c.in-Some.is o c.in-P.is k)
    c.root_p.ensures

pub returns-in-None-2 : goal.returns-in-None-2
returns-in-None-2 c = root_Q_none _ _ _ _ _ c.deref-in-Q.ensures.value c.in_ok-label_trees-in-Q.ensures c.in-Q.is c.in-None-2.is

pub returns-in-Some-2 : goal.returns-in-Some-2
returns-in-Some-2 c =
    IfOk-weaker c.root_q.result _ _
    (λ o k. root_Q_some _ _ _ _ _ c.deref-in-Q.ensures.value c.in_ok-label_trees-in-Q.ensures _ _ c.deref-in-Some-2.ensures.value c.in-Some-2.is o c.in-Q.is k)
    c.root_q.ensures
