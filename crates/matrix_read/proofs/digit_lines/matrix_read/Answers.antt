use Rattle.std.proofs.Common.{[], ◌+◌, ◌∙◌, ap, sym, refl}
use Rattle.text_lines.proofs.LineLemmas.{filled_none}
use Rattle.matrix_read.specs.DenseSteps.{read_lines}
use Rattle.matrix_read.specs.DigitRows.{lines_then}
use Rattle.matrix_read.proofs.digit_lines.matrix_read.Goals as goal

pub returns-in-None : goal.returns-in-None
returns-in-None c passed = c.refused.ensures ∙ sym (ap read_lines (filled_none (passed + 1) [] refl)) ∙ ap (λ rows. lines_then passed rows []) (sym c.in-None.is)

pub returns-in-Some : goal.returns-in-Some
returns-in-Some c passed = c.matrix_of.ensures passed ∙ ap (λ rows. lines_then passed rows []) (sym c.in-Some.is)
