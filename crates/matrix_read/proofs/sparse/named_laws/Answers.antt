use Rattle.matrix_read.proofs.WrittenRowLemmas.{sparse_law_holds, further_law_holds}
use Rattle.matrix_read.proofs.sparse.named_laws.Goals as goal

pub returns : goal.returns
returns c = record { rows = sparse_law_holds; more = further_law_holds }
