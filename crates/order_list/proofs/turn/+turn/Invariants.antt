use Rattle.std.proofs.Common.{map, take}
use Rattle.pq_tree.specs.Equivalent.{AreEquivalent}
use Rattle.pq_tree.specs.Proper.{outline_of, forest}
use Rattle.order_list.specs.LowTrees.{outline_low}
use Rattle.order_list.proofs.turn.+turn.Given as goal

abbrev pub invariant-low_trees-loop-tree : goal.invariant-low_trees-loop-tree
invariant-low_trees-loop-tree l = AreEquivalent (forest (map outline_of (take l.tree-index l.trees))) (map outline_low l.all.items)
