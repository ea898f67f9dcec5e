use Rattle.std.proofs.Common.{◌≡◌, ◌++◌, take, map}
use Rattle.pq_tree.specs.Outline.{leaves_of}
use Rattle.pq_tree.specs.Proper.{outline_of, forest}
use Rattle.pq_tree.proofs.write.+push_leaves.Given as goal

abbrev pub invariant-loop-child : goal.invariant-loop-child
invariant-loop-child l = l.columns.items ≡ l.initial.columns.items ++ leaves_of (forest (map outline_of (take l.child-index l.child-items)))
