use Rattle.std.proofs.Common.{◌≡◌, length}
use Rattle.matrix_read.specs.RecordsLeft.{IsPlain, records_left}
use Rattle.matrix_read.specs.TableSteps.{FitsRecords, with_even_records}
use Rattle.matrix_read.proofs.table.read_further.Given as goal

abbrev pub invariant-loop-so_far : goal.invariant-loop-so_far
invariant-loop-so_far l = record {
  plain : IsPlain l.reader;
  within : FitsRecords l.initial.width l.so_far;
  so_far : with_even_records l.initial.width l.so_far (records_left l.reader) ≡ with_even_records l.initial.width l.fn.begun (records_left l.initial.reader);
}

abbrev pub decreases-loop-so_far : goal.decreases-loop-so_far
decreases-loop-so_far l = length (records_left l.reader)
