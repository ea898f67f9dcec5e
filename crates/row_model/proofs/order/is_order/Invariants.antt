use Rattle.std.proofs.Common.{take}
use Rattle.row_model.proofs.SeenLemmas.{IsSeen}
use Rattle.row_model.proofs.order.is_order.Given as goal

abbrev pub invariant-loop-column : goal.invariant-loop-column
invariant-loop-column l = IsSeen l.c l.seen.items (take l.column-index l.list)
