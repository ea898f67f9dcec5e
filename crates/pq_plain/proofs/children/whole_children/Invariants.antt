use Rattle.std.proofs.Common.{◌≡◌, map, take}
use Rattle.pq_plain.specs.Seen.{outlines, label_seen, whole_trees}
use Rattle.pq_plain.proofs.children.whole_children.Given as goal

abbrev pub invariant-loop-i : goal.invariant-loop-i
invariant-loop-i l = outlines l.copies.items ≡ whole_trees l.wanted (outlines (take l.i l.children)) (map label_seen (take l.i l.labels))
