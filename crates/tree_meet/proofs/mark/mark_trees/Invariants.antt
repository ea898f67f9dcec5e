use Rattle.std.proofs.Common.{map, take}
use Rattle.pq_tree.specs.Proper.{outline_of, forest}
use Rattle.tree_meet.specs.Marks.{AreMarkedByTree}
use Rattle.tree_meet.proofs.mark.mark_trees.Given as goal

abbrev pub invariant-loop-i : goal.invariant-loop-i
invariant-loop-i l = AreMarkedByTree l.marks 0 (forest (map outline_of (take l.i l.trees)))
