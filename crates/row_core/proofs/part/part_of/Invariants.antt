use Rattle.std.proofs.Common.{◌≡◌, map, take}
use Rattle.row_model.specs.Graph.{row_at}
use Rattle.row_core.proofs.part.part_of.Given as goal

abbrev pub invariant-loop-k : goal.invariant-loop-k
invariant-loop-k l = record { columns : l.part.columns ≡ l.m.columns; rows : l.part.rows ≡ map (row_at l.m.rows) (take l.k-index l.list) }
