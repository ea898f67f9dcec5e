use Rattle.std.proofs.Common.{◌∙◌, ap, sym, arith}
use Rattle.row_model.specs.Rows.{RowList}
use Rattle.std.proofs.lemmas.Result.{IfOk-from_err}
use Rattle.matrix_read.proofs.digit_rows.DigitRows.new.Goals as goal

pub with_room-requires : goal.with_room-requires
with_room-requires c = (c.requires.range.0, omega (arith, c.requires.range.1))

pub invariant_of-result : goal.invariant_of-result
invariant_of-result c =
    let width = ap (λ (m : RowList). m.columns) c.in_ok-matrix.ensures in
    record { entry_each = c.in_ok-columns.ensures.len ∙ sym width; small = omega (arith, width, c.requires.range.1) }

pub returns-in_err-matrix : goal.returns-in_err-matrix
returns-in_err-matrix c = IfOk-from_err c.from_residual-in_err-matrix.result _ c.from_residual-in_err-matrix.ensures.0

pub returns-in_err-columns : goal.returns-in_err-columns
returns-in_err-columns c = IfOk-from_err c.from_residual.result _ c.from_residual.ensures.0

pub returns : goal.returns
returns c = c.in_ok-matrix.ensures
