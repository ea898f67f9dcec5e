use Rattle.matrix_read.proofs.DenseLemmas.{dense_whole}
use Rattle.matrix_read.proofs.dense_reader.DenseReader.new.Goals as goal

pub returns : goal.returns
returns c bytes = dense_whole bytes
