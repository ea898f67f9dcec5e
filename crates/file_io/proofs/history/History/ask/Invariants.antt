use Rattle.file_io.specs.Taken.{asked_for}
use Rattle.file_io.proofs.history.History.ask.Given as goal

abbrev pub ghost-becomes : goal.ghost-becomes
ghost-becomes a = asked_for a._bytes.now a.self.now.files
