use Rattle.std.proofs.Common.{rules, ℕ, List, length, refl, sym, ap, arith}
use Rattle.pq_tree.specs.declared.Tree.TheViews.{the_lemmas}
use Rattle.tree_meet.proofs.Fronts.{count_P, count_Q, groups_leaf, groups_more, groups_more_exact, arities_P, arities_Q, counted_Q, child_arities}
use Rattle.tree_meet.proofs.count.+counts.Goals as goal

pub count_tree-count_trees-requires : goal.count_tree-count_trees-requires
count_tree-count_trees-requires t c = (
  search (rules, the_lemmas),
  (
    arities_P c.args.tree.now c.in-P.children c.deref.result.now c.in-P.is c.deref.ensures.value c.requires.arities,
    omega (arith, c.requires.few, count_P c.args.tree.now c.in-P.children c.deref.result.now c.in-P.is c.deref.ensures.value),
  ),
)

pub count_tree-overflow_add-result : goal.count_tree-overflow_add-result
count_tree-overflow_add-result t c =
    omega (arith, c.requires.few, c.count_trees.ensures, count_P c.args.tree.now c.in-P.children c.deref.result.now c.in-P.is c.deref.ensures.value)

pub count_tree-overflow_cast-result : goal.count_tree-overflow_cast-result
count_tree-overflow_cast-result t c =
    omega (arith, c.requires.few, c.len.ensures, counted_Q c.args.tree.now c.in-Q.children c.in-Q.children.items c.in-Q.is refl c.requires.arities)

pub count_tree-count_trees-requires-in-Q : goal.count_tree-count_trees-requires-in-Q
count_tree-count_trees-requires-in-Q t c =
    let ts = c.deref-in-Q.result.now in (
      search (rules, the_lemmas),
      (
        (arities_Q c.args.tree.now c.in-Q.children ts c.in-Q.is c.deref-in-Q.ensures.value c.requires.arities).1,
        omega (arith, c.requires.few, count_Q c.args.tree.now c.in-Q.children ts c.in-Q.is c.deref-in-Q.ensures.value),
      ),
    )

pub count_tree-overflow_add-result-in-Q : goal.count_tree-overflow_add-result-in-Q
count_tree-overflow_add-result-in-Q t c =
    let counted = counted_Q c.args.tree.now c.in-Q.children c.deref-in-Q.result.now c.in-Q.is c.deref-in-Q.ensures.value c.requires.arities in
    omega (arith, c.requires.few, c.len.ensures, c.deref-in-Q.ensures.len, c.count_trees-in-Q.ensures, counted)

pub count_tree-returns-in-Leaf : goal.count_tree-returns-in-Leaf
count_tree-returns-in-Leaf t c = sym (ap (λ (l : List (List ℕ)). length l) (groups_leaf c.args.tree.now c.in-Leaf.field-0 c.in-Leaf.is))

pub count_tree-returns-in-P : goal.count_tree-returns-in-P
count_tree-returns-in-P t c =
    omega (arith, c.count_trees.ensures, count_P c.args.tree.now c.in-P.children c.deref.result.now c.in-P.is c.deref.ensures.value)

pub count_tree-returns-in-Q : goal.count_tree-returns-in-Q
count_tree-returns-in-Q t c =
    let counted = counted_Q c.args.tree.now c.in-Q.children c.deref-in-Q.result.now c.in-Q.is c.deref-in-Q.ensures.value c.requires.arities in
    omega (arith, c.len.ensures, c.deref-in-Q.ensures.len, c.count_trees-in-Q.ensures, counted)

pub count_trees-count_tree-count-requires : goal.count_trees-count_tree-count-requires
count_trees-count_tree-count-requires t c = (
  search (rules, the_lemmas),
  (
    child_arities c.args.trees.now c.loop-tree.tree-index c.tree-item.result c.loop-tree-test.true c.tree-item.is c.requires.arities,
    omega (arith, c.requires.few, groups_more c.args.trees.now c.loop-tree.tree-index c.tree-item.result c.loop-tree-test.true c.tree-item.is),
  ),
)

pub count_trees-overflow_add-count : goal.count_trees-overflow_add-count
count_trees-overflow_add-count t c =
    omega (arith, c.requires.few, c.loop-tree.invariant, c.count_tree-count.ensures, groups_more c.args.trees.now c.loop-tree.tree-index c.tree-item.result c.loop-tree-test.true c.tree-item.is)

pub count_trees-loop-tree-preserved : goal.count_trees-loop-tree-preserved
count_trees-loop-tree-preserved t c =
    omega (arith, c.loop-tree.invariant, c.count_tree-count.ensures, groups_more_exact c.args.trees.now c.loop-tree.tree-index c.tree-item.result c.loop-tree-test.true c.tree-item.is)
