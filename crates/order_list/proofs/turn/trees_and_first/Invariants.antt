use Rattle.std.proofs.Common.{◌≡◌, map}
use Rattle.pq_tree.specs.Proper.{outline_of}
use Rattle.order_list.specs.LowTrees.{outline_low}
use Rattle.order_list.proofs.turn.trees_and_first.Given as goal

abbrev pub invariant-loop-one : goal.invariant-loop-one
invariant-loop-one l = map outline_of l.trees.items ≡ map outline_low l.yielded
