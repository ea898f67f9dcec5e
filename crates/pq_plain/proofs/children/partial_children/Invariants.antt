use Rattle.std.proofs.Common.{◌≡◌, map}
use Rattle.tree_theory.specs.Labels.{partials}
use Rattle.pq_plain.specs.Seen.{halves_seen, label_seen}
use Rattle.pq_plain.proofs.children.partial_children.Given as goal

abbrev pub invariant-loop-label : goal.invariant-loop-label
invariant-loop-label l = map halves_seen l.halves.items ≡ partials (map label_seen l.yielded)
