use Rattle.std.proofs.Common.{◌≡◌, ◌+◌}
use Rattle.row_model.specs.Rows.{IsRow}
use Rattle.short_cycles.proofs.part.row_of.Given as goal

abbrev pub invariant-loop-i : goal.invariant-loop-i
invariant-loop-i g l = record { row : IsRow l.i l.row.items; ticks : l.steps ≡ l.fn.steps + l.i }
