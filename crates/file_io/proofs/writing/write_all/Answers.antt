use Rattle.std.proofs.Common.{rules}
use Rattle.file_io.proofs.Pieces.{Appends-take}
use Rattle.file_io.proofs.writing.write_all.Goals as goal

pub loop-written-preserved : goal.loop-written-preserved
loop-written-preserved g c = record {
  within = search rules;
  told = search rules;
  so_far = Appends-take _ _ _ _ _ _ c.loop-written.invariant.so_far c.in_ok-written.ensures.bytes;
}
