use Rattle.matrix_read.proofs.WrittenLemmas.{dense_law_holds}
use Rattle.matrix_read.proofs.dense.dense_law.Goals as goal

pub returns : goal.returns
returns c = dense_law_holds
