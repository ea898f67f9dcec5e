use Rattle.std.proofs.Common.{sym}
use Rattle.matrix_read.proofs.SparseLemmas.{sparse_short}
use Rattle.matrix_read.proofs.rows_reader.RowsReader.new.Goals as goal

pub returns : goal.returns
returns c bytes short = sym (sparse_short bytes short)
