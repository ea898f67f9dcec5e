use Rattle.std.proofs.Common.{ap}
use Rattle.file_io.specs.Faults.{one_more}
use Rattle.memory_run.proofs.Names.{read_keeps}
use Rattle.memory_run.proofs.files.HandedOverShelf.read.Goals as goal

pub invariant_of-self : goal.invariant_of-self
invariant_of-self c =
    let old = c.self.inside.shelf in
    let new = c.read.new.self in
    let e = c.read.ensures in
    read_keeps old new (one_more old.calls) c.read.new.buf c.read.result c.self.invariant (ap (λ files. files.files) e.kept) (ap (λ files. files.failing) e.kept) e.told e.taken e.fails
