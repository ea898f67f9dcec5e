use Rattle.matrix_read.proofs.CellLemmas.{row_law_holds, trimmed_law_holds, names_law_holds, refusal_law_holds}
use Rattle.matrix_read.proofs.HeaderLemmas.{header_names_law, header_law, record_law}
use Rattle.matrix_read.proofs.WrittenTableLemmas.{table_law_holds}
use Rattle.matrix_read.proofs.table.table_laws.Goals as goal

pub returns : goal.returns
returns c = record { written = table_law_holds; row = row_law_holds; trimmed = trimmed_law_holds; header_names = header_names_law; names = names_law_holds; header = header_law; record_codes = record_law; refusal = refusal_law_holds }
