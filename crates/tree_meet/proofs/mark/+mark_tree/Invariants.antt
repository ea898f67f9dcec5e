use Rattle.std.proofs.Common.{map, take}
use Rattle.pq_tree.specs.Outline.{leaves_of}
use Rattle.pq_tree.specs.Proper.{outline_of, forest}
use Rattle.tree_meet.proofs.Marked.{IsMarkedTo}
use Rattle.tree_meet.proofs.mark.+mark_tree.Given as goal

abbrev pub invariant-loop-child : goal.invariant-loop-child
invariant-loop-child l = IsMarkedTo (leaves_of (forest (map outline_of (take l.child-index l.child-items)))) l.mark l.initial.marks l.marks
