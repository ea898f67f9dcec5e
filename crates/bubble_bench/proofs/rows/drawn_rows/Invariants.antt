use Rattle.std.proofs.Common.{◌≡◌, length}
use Rattle.bubble_bench.specs.declared.rows.TheConstants.{COLUMNS}
use Rattle.bubble_bench.proofs.rows.drawn_rows.Given as goal

abbrev pub invariant-loop : goal.invariant-loop
invariant-loop l = (l.m.columns ≡ COLUMNS) × (length l.m.rows ≡ l.counter)
