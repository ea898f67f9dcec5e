use Rattle.std.proofs.Common.{◌≡◌, map, take}
use Rattle.pq_tree.specs.Proper.{outline_of}
use Rattle.pq_plain.proofs.copy.+copy.Given as goal

abbrev pub invariant-all_copied-loop-tree : goal.invariant-all_copied-loop-tree
invariant-all_copied-loop-tree l = map outline_of l.copies.items ≡ map outline_of (take l.tree-index l.trees)
