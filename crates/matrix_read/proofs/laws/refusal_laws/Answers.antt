use Rattle.text_lines.proofs.FirstRefused.{first_line_law}
use Rattle.matrix_read.proofs.RefusalLemmas.{dense_refusals, sparse_refusals, further_refusals}
use Rattle.matrix_read.proofs.CloneCauses.{clone_refusals}
use Rattle.matrix_read.proofs.TableLemmas.{table_refusals}
use Rattle.matrix_read.proofs.laws.refusal_laws.Goals as goal

pub returns : goal.returns
returns c = record { first = first_line_law; dense = dense_refusals; rows = sparse_refusals; more = further_refusals; table = table_refusals; clones = clone_refusals }
