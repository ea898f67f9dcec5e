use Rattle.std.proofs.KnownBytes.{Keeps-refl, Keeps-trans}
use Rattle.file_io.proofs.retried.flush_retried.Goals as goal

pub loop-init : goal.loop-init
loop-init g c = Keeps-refl _

pub loop-preserved : goal.loop-preserved
loop-preserved g c = Keeps-trans _ _ _ c.loop.invariant c.flush.ensures.bytes
