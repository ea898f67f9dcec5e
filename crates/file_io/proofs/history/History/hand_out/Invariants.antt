use Rattle.std.specs.Prelude.{◌==◌, length}
use Rattle.file_io.specs.Taken.{handed_out}
use Rattle.file_io.proofs.history.History.hand_out.Given as goal

abbrev pub ghost-becomes : goal.ghost-becomes
ghost-becomes a = handed_out a._bytes.now (length a._bytes.now == 0) a.self.now.files
