use Rattle.std.proofs.Common.{map, take}
use Rattle.tree_theory.specs.Reduced.{AreLabels}
use Rattle.pq_plain.specs.Seen.{outlines, label_seen}
use Rattle.pq_plain.proofs.below.+label.Given as goal

abbrev pub invariant-label_trees-loop-tree : goal.invariant-label_trees-loop-tree
invariant-label_trees-loop-tree l = AreLabels l.row (outlines (take l.tree-index l.trees)) (map label_seen l.labels.items)
