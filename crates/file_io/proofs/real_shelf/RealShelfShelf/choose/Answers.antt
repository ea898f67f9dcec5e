use Rattle.file_io.proofs.real_shelf.RealShelfShelf.choose.Goals as goal

pub returns-in-Ok-clause-asked : goal.returns-in-Ok-clause-asked
returns-in-Ok-clause-asked g c = rw (← c.self.view_is, ← c.as_bytes.ensures.value) c.ask.ensures

pub returns-in-Ok-clause-source : goal.returns-in-Ok-clause-source
returns-in-Ok-clause-source g c = c.in-Ok.ensures.source

pub returns-in-Ok-clause-unread : goal.returns-in-Ok-clause-unread
returns-in-Ok-clause-unread g c = c.in-Ok.ensures.unread
