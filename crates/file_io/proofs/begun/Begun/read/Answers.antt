use Rattle.file_io.proofs.begun.Begun.read.Goals as goal

pub returns-clause-bytes : goal.returns-clause-bytes
returns-clause-bytes g c = c.in_ok-n.ensures.bytes

pub returns-clause-given : goal.returns-clause-given
returns-clause-given g c = c.add.ensures
