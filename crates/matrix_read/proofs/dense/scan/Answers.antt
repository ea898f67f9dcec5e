use Rattle.std.proofs.Common.{◌∙◌, sym, ap, length}
use Rattle.matrix_read.proofs.DenseLemmas.{alone_digits, alone_clean, alone_row}
use Rattle.matrix_read.proofs.dense.scan.Goals as goal

pub returns-in-Some-clause-foreign : goal.returns-in-Some-clause-foreign
returns-in-Some-clause-foreign c = (λ none. absurd (cc), λ some. sym some ∙ alone_clean c.args.line.now c.in-Some.ensures.digits)

pub returns-in-Some-clause-width : goal.returns-in-Some-clause-width
returns-in-Some-clause-width c = sym (ap length (alone_digits c.args.line.now c.in-Some.ensures.digits))

pub returns-in-Some-clause-row : goal.returns-in-Some-clause-row
returns-in-Some-clause-row c = λ le. c.in-Some.ensures.columns ∙ alone_row c.args.line.now c.in-Some.ensures.digits
