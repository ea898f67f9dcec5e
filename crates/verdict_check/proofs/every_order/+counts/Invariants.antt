use Rattle.std.proofs.Common.{◌≡◌, length, map, take}
use Rattle.pq_tree.specs.Outline.{leaves_of}
use Rattle.pq_tree.specs.Proper.{outline_of, forest}
use Rattle.verdict_check.proofs.every_order.+counts.Given as goal

abbrev pub invariant-leaf_counts-loop-tree : goal.invariant-leaf_counts-loop-tree
invariant-leaf_counts-loop-tree l = l.count ≡ length (leaves_of (forest (map outline_of (take l.tree-index l.trees))))
