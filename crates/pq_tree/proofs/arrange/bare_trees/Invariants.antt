use Rattle.std.proofs.Common.{◌≡◌, map}
use Rattle.pq_tree.specs.Proper.{outline_of}
use Rattle.pq_tree.specs.Arranged.{outline_in}
use Rattle.pq_tree.proofs.arrange.bare_trees.Given as goal

abbrev pub invariant-loop-one : goal.invariant-loop-one
invariant-loop-one l = map outline_of l.trees.items ≡ map outline_in l.yielded
