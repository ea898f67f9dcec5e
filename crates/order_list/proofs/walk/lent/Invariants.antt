use Rattle.std.proofs.Common.{◌≡◌, map, take}
use Rattle.pq_tree.specs.Proper.{outline_of}
use Rattle.order_list.specs.Coming.{outlines}
use Rattle.order_list.proofs.walk.lent.Given as goal

abbrev pub invariant-loop-tree : goal.invariant-loop-tree
invariant-loop-tree l = outlines l.all.items ≡ map outline_of (take l.tree-index l.trees)
