use Rattle.std.proofs.Common.{◌≡◌, ◌≤◌, ◌+◌, ◌++◌, drop, map, take}
use Rattle.std.specs.List.{list_any}
use Rattle.csv.specs.Records.{fields_of}
use Rattle.matrix_read.specs.Cells.{trimmed, cells, is_foreign_cell}
use Rattle.matrix_read.proofs.TableLemmas.{present_from}
use Rattle.matrix_read.proofs.table.mark_columns.Given as goal

abbrev pub invariant-loop-before : goal.invariant-loop-before
invariant-loop-before l = record {
  few : l.ones ≤ l.before;
  clean : list_any is_foreign_cell (map trimmed (drop (l.before + 1) (fields_of l.fields))) ≡ list_any is_foreign_cell (cells (fields_of l.fields));
  row : take l.ones l.columns ++ present_from (l.before + 1) (map trimmed (drop (l.before + 1) (fields_of l.fields))) ≡ present_from 1 (cells (fields_of l.fields));
}
