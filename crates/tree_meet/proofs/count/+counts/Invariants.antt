use Rattle.std.proofs.Common.{◌≡◌, length, map, take}
use Rattle.pq_tree.specs.Proper.{outline_of, forest}
use Rattle.tree_meet.specs.TreeRows.{groups_of}
use Rattle.tree_meet.proofs.count.+counts.Given as goal

abbrev pub invariant-count_trees-loop-tree : goal.invariant-count_trees-loop-tree
invariant-count_trees-loop-tree l = l.count ≡ length (groups_of (forest (map outline_of (take l.tree-index l.trees))))
