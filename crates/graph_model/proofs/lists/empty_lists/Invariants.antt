use Rattle.std.proofs.Common.{◌≡◌, [], replicate}
use Rattle.graph_model.proofs.lists.empty_lists.Given as goal

abbrev pub invariant-loop-i : goal.invariant-loop-i
invariant-loop-i l = record {
  empty : l.lists ≡ (record { columns = l.columns; rows = replicate l._i [] });
}
