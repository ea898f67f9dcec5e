use Rattle.std.proofs.Common.{map, take}
use Rattle.pq_tree.specs.Equivalent.{AreEquivalent}
use Rattle.pq_tree.specs.Proper.{outline_of, forest}
use Rattle.pq_tree.specs.Arranged.{outline_in, children_in}
use Rattle.pq_tree.proofs.arrange.+arrange.Given as goal

abbrev pub invariant-arranged_trees-loop-tree : goal.invariant-arranged_trees-loop-tree
invariant-arranged_trees-loop-tree l = AreEquivalent (forest (map outline_of (take l.tree-index l.trees))) (map outline_in l.all.items)

abbrev pub invariant-arranged_children-loop-tree : goal.invariant-arranged_children-loop-tree
invariant-arranged_children-loop-tree l = AreEquivalent (forest (map outline_of (take l.tree-index l.trees))) (children_in l.all)
