use Rattle.std.proofs.Common.{◌≡◌, ◌≤◌, map, take, length}
use Rattle.tree_theory.specs.Labels.{partials}
use Rattle.pq_plain.specs.Seen.{label_seen, empties, fulls}
use Rattle.pq_plain.proofs.label.count_kinds.Given as goal

abbrev pub invariant-loop-label : goal.invariant-loop-label
invariant-loop-label l = record {
  empty : l.kinds.empty ≡ empties (map label_seen (take l.label-index l.labels));
  full : l.kinds.full ≡ fulls (map label_seen (take l.label-index l.labels));
  partial : l.kinds.partial ≡ length (partials (map label_seen (take l.label-index l.labels)));
  few_empty : l.kinds.empty ≤ l.label-index;
  few_full : l.kinds.full ≤ l.label-index;
  few_partial : l.kinds.partial ≤ l.label-index;
}
