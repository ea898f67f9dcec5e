use Rattle.file_io.proofs.chosen.open_by.Goals as goal

pub returns-clause-unread : goal.returns-clause-unread
returns-clause-unread g c = c.of.ensures.given
