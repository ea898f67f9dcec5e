use Rattle.file_io.proofs.real_shelf.RealShelfShelf.read.Goals as goal

pub returns-in-Err-clause-count : goal.returns-in-Err-clause-count
returns-in-Err-clause-count g c = rw (← c.self.view_is) c.saturating_add-self-inside.ensures
