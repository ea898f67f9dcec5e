use Rattle.std.proofs.Common.{◌≡◌, ◌+◌, map, drop}
use Rattle.pq_plain.specs.Seen.{label_seen, whole_front}
use Rattle.pq_plain.proofs.label.leading.Given as goal

abbrev pub invariant-loop-i : goal.invariant-loop-i
invariant-loop-i l = whole_front l.wanted (map label_seen l.labels) ≡ l.i + whole_front l.wanted (map label_seen (drop l.i l.labels))
