use Rattle.std.proofs.Common.{◌∙◌, length, length-append, refl, sym, ap, arith, rules, take}
use Rattle.pq_tree.specs.declared.Tree.TheViews.{the_lemmas}
use Rattle.pq_tree.specs.Outline.{leaves}
use Rattle.pq_tree.specs.Proper.{outline_of}
use Rattle.pq_tree.proofs.Shown.{outline_of-Leaf}
use Rattle.verdict_check.proofs.Children.{columns_of, node_columns, child_long, front_next}
use Rattle.verdict_check.proofs.every_order.+counts.Goals as goal

pub leaf_count-leaf_counts-requires : goal.leaf_count-leaf_counts-requires
leaf_count-leaf_counts-requires t c = (search (rules, the_lemmas), omega (arith, c.requires, ap length (node_columns c.args.tree.now c.in-P.children c.deref.result.now c.in-P.is c.deref.ensures.value)))

pub leaf_count-returns-in-Leaf : goal.leaf_count-returns-in-Leaf
leaf_count-returns-in-Leaf t c = rw (c.in-Leaf.is, outline_of-Leaf) refl

pub leaf_count-returns-in-P : goal.leaf_count-returns-in-P
leaf_count-returns-in-P t c = c.leaf_counts.ensures ∙ sym (ap length (node_columns c.args.tree.now c.in-P.children c.deref.result.now c.in-P.is c.deref.ensures.value))

pub leaf_counts-leaf_count-count-requires : goal.leaf_counts-leaf_count-count-requires
leaf_counts-leaf_count-count-requires t c =
    (search (rules, the_lemmas), omega (arith, c.requires, child_long c.args.trees.now c.loop-tree.tree-index c.tree-item.result c.loop-tree-test.true c.tree-item.is))

pub leaf_counts-overflow_add-count : goal.leaf_counts-overflow_add-count
leaf_counts-overflow_add-count t c =
    omega (arith, c.requires, c.loop-tree.invariant, c.leaf_count-count.ensures, child_long c.args.trees.now c.loop-tree.tree-index c.tree-item.result c.loop-tree-test.true c.tree-item.is)

pub leaf_counts-loop-tree-preserved : goal.leaf_counts-loop-tree-preserved
leaf_counts-loop-tree-preserved t c =
    omega (
      arith,
      c.loop-tree.invariant,
      c.leaf_count-count.ensures,
      ap length (front_next c.args.trees.now c.loop-tree.tree-index c.tree-item.result c.loop-tree-test.true c.tree-item.is),
      length-append (columns_of (take c.loop-tree.tree-index c.args.trees.now)) (leaves (outline_of c.tree-item.result)),
    )
