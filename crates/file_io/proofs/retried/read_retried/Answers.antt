use Rattle.std.proofs.KnownBytes.{Keeps-refl}
use Rattle.file_io.proofs.retried.read_retried.Goals as goal

pub loop-init : goal.loop-init
loop-init g c = Keeps-refl _
