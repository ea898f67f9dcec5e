use Rattle.std.proofs.Common.{◌≡◌, ◌+◌}
use Rattle.row_model.proofs.counted.CountedRows.span_counted.Given as goal

abbrev pub invariant-loop : goal.invariant-loop
invariant-loop g l = l.steps ≡ l.fn.steps + l.index
