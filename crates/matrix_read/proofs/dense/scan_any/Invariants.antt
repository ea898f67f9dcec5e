use Rattle.std.proofs.Common.{◌≡◌, ◌≤◌, ◌+◌, ◌++◌, drop, take, length}
use Rattle.std.specs.List.{list_any}
use Rattle.matrix_read.specs.Dense.{digits_of, width_of}
use Rattle.matrix_read.specs.DenseSteps.{is_foreign_byte}
use Rattle.matrix_read.proofs.DenseLemmas.{ones_from}
use Rattle.matrix_read.proofs.dense.scan_any.Given as goal

abbrev pub invariant-loop-byte : goal.invariant-loop-byte
invariant-loop-byte l = record {
  clean : list_any is_foreign_byte (drop l.byte-index l.line) ≡ list_any is_foreign_byte l.line;
  width : l.digits.all + width_of (drop l.byte-index l.line) ≡ width_of l.line;
  few : l.digits.ones ≤ l.digits.all;
  short : l.digits.all ≤ l.byte-index;
  within : l.digits.ones ≤ length l.columns;
  row : width_of l.line ≤ length l.columns → take l.digits.ones l.columns ++ ones_from (l.digits.all + 1) (digits_of (drop l.byte-index l.line)) ≡ ones_from 1 (digits_of l.line);
}
