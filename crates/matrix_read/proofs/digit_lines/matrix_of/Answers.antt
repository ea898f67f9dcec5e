use Rattle.std.proofs.Common.{[], ◌∙◌, ap, sym}
use Rattle.matrix_read.specs.DigitRows.{read_digits_then}
use Rattle.matrix_read.proofs.DenseLemmas.{digits_end}
use Rattle.matrix_read.proofs.digit_lines.matrix_of.Goals as goal

pub returns-in-Ok : goal.returns-in-Ok
returns-in-Ok c passed = sym (ap (λ read. read_digits_then passed read []) c.in-Ok.is ∙ digits_end passed c.in-Ok.rows.matrix)
