use Rattle.std.proofs.Common.{sym, ◌∙◌}
use Rattle.matrix_read.proofs.SparseLemmas.{sparse_long}
use Rattle.matrix_read.proofs.sparse.read_rows.Goals as goal

pub returns-then-bytes-gt-MAX_FILE_BYTES : goal.returns-then-bytes-gt-MAX_FILE_BYTES
returns-then-bytes-gt-MAX_FILE_BYTES c = c.refused.ensures ∙ sym (sparse_long c.args.bytes.now c.if-bytes-gt-MAX_FILE_BYTES.true)
