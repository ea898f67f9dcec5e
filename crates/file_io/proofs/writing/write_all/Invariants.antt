use Rattle.std.proofs.Common.{◌≡◌, ◌-◌, ◌≤◌, length, take}
use Rattle.std.specs.Io.KnownBytes.{Appends}
use Rattle.file_io.proofs.writing.write_all.Given as goal

abbrev pub invariant-loop-written : goal.invariant-loop-written
invariant-loop-written g l = record {
  within : l.written ≤ length l.bytes;
  told : g.O.Sink.faults l.sink ≡ g.O.Sink.faults l.initial.sink;
  so_far : Appends (g.O.Sink.written l.initial.sink) (g.O.Sink.written l.sink) (take l.written l.bytes);
}

abbrev pub decreases-loop-written : goal.decreases-loop-written
decreases-loop-written g l = length l.bytes - l.written
