use Rattle.std.proofs.Common.{◌≡◌, take}
use Rattle.circular_ones.specs.Circular.{cut_rows}
use Rattle.circular_ones.proofs.cut.cut_rows.Given as goal

-- the first rows are cut
abbrev pub invariant-loop-k : goal.invariant-loop-k
invariant-loop-k l = (l.rows.columns ≡ l.m.columns) × (l.rows.rows ≡ take l.k (cut_rows l.m.columns l.m.rows))
