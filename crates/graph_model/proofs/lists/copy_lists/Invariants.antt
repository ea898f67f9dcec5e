use Rattle.std.proofs.Common.{◌≡◌, ◌++◌, slice_range}
use Rattle.graph_model.proofs.lists.copy_lists.Given as goal

abbrev pub invariant-loop-k : goal.invariant-loop-k
invariant-loop-k l = record {
  copied : l.lists ≡ (record { columns = l.initial.lists.columns; rows = l.initial.lists.rows ++ slice_range l.old.rows l.from l.k });
}
