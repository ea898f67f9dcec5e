use Rattle.std.proofs.Common.{◌+◌, ◌-◌}
use Rattle.row_model.specs.Rows.{IsRow}
use Rattle.bubble_bench.proofs.rows.list_run.Given as goal

abbrev pub invariant-loop-i : goal.invariant-loop-i
invariant-loop-i l = IsRow (l.first - 1 + l.i) l.row.items
