use Rattle.std.proofs.Common.{◌≡◌, ◌++◌, drop, map, not, false}
use Rattle.std.specs.List.{filter}
use Rattle.csv.specs.Records.{fields_of}
use Rattle.matrix_read.specs.Cells.{trimmed, is_empty}
use Rattle.matrix_read.specs.Table.{names_of}
use Rattle.matrix_read.specs.Names.{has_twice, bytes_of}
use Rattle.matrix_read.proofs.table.stands_twice.Given as goal

abbrev pub invariant-loop-place : goal.invariant-loop-place
invariant-loop-place l = record {
  distinct : has_twice (bytes_of l.names.keys) ≡ false;
  so_far : has_twice (bytes_of l.names.keys ++ filter (λ name. not (is_empty name)) (map trimmed (drop l.place (fields_of l.header)))) ≡ has_twice (names_of (fields_of l.header));
}
