use Rattle.std.proofs.Common.{rules, ◌+◌, refl, arith}
use Rattle.pq_tree.specs.declared.Tree.TheViews.{the_lemmas}
use Rattle.solve_replies.proofs.Counted.{weight_next, weight_within, weight_Leaf, weight_P, weight_Q}
use Rattle.solve_replies.proofs.nodes.+nodes.Goals as goal

pub count_all-count_nodes-requires : goal.count_all-count_nodes-requires
count_all-count_nodes-requires t c =
    let ts = c.args.trees.now in
    let i = c.loop-tree.tree-index in
    let more = weight_next 1 0 ts i c.tree-item.result c.loop-tree-test.true c.tree-item.is in
    let more' = weight_next 0 1 ts i c.tree-item.result c.loop-tree-test.true c.tree-item.is in
    (search (rules, the_lemmas), (omega (arith, more, weight_within 1 0 ts (i + 1), c.loop-tree.invariant.0, c.requires.p), omega (arith, more', weight_within 0 1 ts (i + 1), c.loop-tree.invariant.1, c.requires.q)))

pub count_all-loop-tree-preserved : goal.count_all-loop-tree-preserved
count_all-loop-tree-preserved t c =
    let ts = c.args.trees.now in
    let i = c.loop-tree.tree-index in (
      omega (arith, weight_next 1 0 ts i c.tree-item.result c.loop-tree-test.true c.tree-item.is, c.loop-tree.invariant.0, c.count_nodes.ensures.p),
      omega (arith, weight_next 0 1 ts i c.tree-item.result c.loop-tree-test.true c.tree-item.is, c.loop-tree.invariant.1, c.count_nodes.ensures.q),
    )

pub count_nodes-overflow_add-nodes : goal.count_nodes-overflow_add-nodes
count_nodes-overflow_add-nodes t c = omega (arith, weight_P 1 0 c.args.tree.now c.in-P.children _ c.in-P.is refl, c.requires.p)

pub count_nodes-count_all-requires : goal.count_nodes-count_all-requires
count_nodes-count_all-requires t c =
    let p = weight_P 1 0 c.args.tree.now c.in-P.children c.deref.result.now c.in-P.is c.deref.ensures.value in
    let q = weight_P 0 1 c.args.tree.now c.in-P.children c.deref.result.now c.in-P.is c.deref.ensures.value in
    (search (rules, the_lemmas), (omega (arith, p, c.requires.p), omega (arith, q, c.requires.q)))

pub count_nodes-overflow_add-nodes-in-Q : goal.count_nodes-overflow_add-nodes-in-Q
count_nodes-overflow_add-nodes-in-Q t c = omega (arith, weight_Q 0 1 c.args.tree.now c.in-Q.children _ c.in-Q.is refl, c.requires.q)

pub count_nodes-count_all-requires-in-Q : goal.count_nodes-count_all-requires-in-Q
count_nodes-count_all-requires-in-Q t c =
    let p = weight_Q 1 0 c.args.tree.now c.in-Q.children c.deref-in-Q.result.now c.in-Q.is c.deref-in-Q.ensures.value in
    let q = weight_Q 0 1 c.args.tree.now c.in-Q.children c.deref-in-Q.result.now c.in-Q.is c.deref-in-Q.ensures.value in
    (search (rules, the_lemmas), (omega (arith, p, c.requires.p), omega (arith, q, c.requires.q)))

pub count_nodes-returns-in-Leaf-clause-p : goal.count_nodes-returns-in-Leaf-clause-p
count_nodes-returns-in-Leaf-clause-p t c = omega (arith, weight_Leaf 1 0 c.args.tree.now c.in-Leaf.field-0 c.in-Leaf.is)

pub count_nodes-returns-in-Leaf-clause-q : goal.count_nodes-returns-in-Leaf-clause-q
count_nodes-returns-in-Leaf-clause-q t c = omega (arith, weight_Leaf 0 1 c.args.tree.now c.in-Leaf.field-0 c.in-Leaf.is)

pub count_nodes-returns-in-P-clause-p : goal.count_nodes-returns-in-P-clause-p
count_nodes-returns-in-P-clause-p t c = omega (arith, weight_P 1 0 c.args.tree.now c.in-P.children c.deref.result.now c.in-P.is c.deref.ensures.value, c.count_all.ensures.p)

pub count_nodes-returns-in-P-clause-q : goal.count_nodes-returns-in-P-clause-q
count_nodes-returns-in-P-clause-q t c = omega (arith, weight_P 0 1 c.args.tree.now c.in-P.children c.deref.result.now c.in-P.is c.deref.ensures.value, c.count_all.ensures.q)

pub count_nodes-returns-in-Q-clause-p : goal.count_nodes-returns-in-Q-clause-p
count_nodes-returns-in-Q-clause-p t c = omega (arith, weight_Q 1 0 c.args.tree.now c.in-Q.children c.deref-in-Q.result.now c.in-Q.is c.deref-in-Q.ensures.value, c.count_all-in-Q.ensures.p)

pub count_nodes-returns-in-Q-clause-q : goal.count_nodes-returns-in-Q-clause-q
count_nodes-returns-in-Q-clause-q t c = omega (arith, weight_Q 0 1 c.args.tree.now c.in-Q.children c.deref-in-Q.result.now c.in-Q.is c.deref-in-Q.ensures.value, c.count_all-in-Q.ensures.q)
