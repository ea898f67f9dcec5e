use Rattle.matrix_read.proofs.CloneCauses.{clone_law_holds}
use Rattle.matrix_read.proofs.clones.clone_law.Goals as goal

pub returns : goal.returns
returns c = clone_law_holds
