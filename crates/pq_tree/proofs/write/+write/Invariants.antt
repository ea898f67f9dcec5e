use Rattle.std.proofs.Common.{◌≡◌, ◌++◌, take, map}
use Rattle.pq_tree.specs.Text.{forest_text}
use Rattle.pq_tree.specs.Proper.{outline_of, forest}
use Rattle.pq_tree.proofs.write.+write.Given as goal

abbrev pub invariant-push_trees-loop-i : goal.invariant-push_trees-loop-i
invariant-push_trees-loop-i l = l.text.items ≡ l.initial.text.items ++ forest_text (forest (map outline_of (take l.i l.trees)))
