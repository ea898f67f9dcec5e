use Rattle.std.proofs.Common.{[], ◌∙◌, ap, sym}
use Rattle.matrix_read.specs.NamedRows.{read_then}
use Rattle.matrix_read.proofs.SparseLemmas.{then_end}
use Rattle.matrix_read.proofs.rows_reader.matrix_of.Goals as goal

pub returns-in-Ok : goal.returns-in-Ok
returns-in-Ok c = sym (ap (λ read. read_then read []) c.in-Ok.is ∙ then_end c.in-Ok.rows.passed c.in-Ok.rows.matrix)
