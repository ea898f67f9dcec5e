use Rattle.std.proofs.Common.{◌∙◌, length, ap, sym, refl, arith}
use Rattle.row_model.specs.Rows.{RowList}
use Rattle.matrix_read.proofs.MarkLemmas.{none_set}
use Rattle.std.proofs.lemmas.Result.{IfOk-from_err}
use Rattle.matrix_read.proofs.named_rows.NamedRows.new.Goals as goal

pub with_room-requires : goal.with_room-requires
with_room-requires c = c.requires.range

pub returns-in_err-matrix : goal.returns-in_err-matrix
returns-in_err-matrix c = record { passed = IfOk-from_err c.from_residual-in_err-matrix.result _ c.from_residual-in_err-matrix.ensures.0; matrix = IfOk-from_err c.from_residual-in_err-matrix.result _ c.from_residual-in_err-matrix.ensures.0 }

pub returns-clause-passed : goal.returns-clause-passed
returns-clause-passed c = refl

pub returns-in_err-columns : goal.returns-in_err-columns
returns-in_err-columns c = record { passed = IfOk-from_err c.from_residual-in_err-columns.result _ c.from_residual-in_err-columns.ensures.0; matrix = IfOk-from_err c.from_residual-in_err-columns.result _ c.from_residual-in_err-columns.ensures.0 }

pub invariant_of-result : goal.invariant_of-result
invariant_of-result c = record {
  few_passed = c.requires.passed;
  few = omega (arith, ap (λ (m : RowList). length m.rows) c.in_ok-matrix.ensures);
  small = omega (arith, ap (λ (m : RowList). m.columns) c.in_ok-matrix.ensures, c.requires.range.1);
  mark_each = c.in_ok-marks.ensures.len ∙ sym (ap (λ (m : RowList). m.columns) c.in_ok-matrix.ensures);
  clear = none_set c.in_ok-marks.marks.items c.args.c (c.in_ok-marks.ensures.items_if_clones_equal (λ y e. e));
  entry_each = c.in_ok-columns.ensures.len ∙ sym (ap (λ (m : RowList). m.columns) c.in_ok-matrix.ensures);
}

pub returns-in_err-marks : goal.returns-in_err-marks
returns-in_err-marks c = record { passed = IfOk-from_err c.from_residual.result _ c.from_residual.ensures.0; matrix = IfOk-from_err c.from_residual.result _ c.from_residual.ensures.0 }

pub returns-clause-matrix : goal.returns-clause-matrix
returns-clause-matrix c = c.in_ok-matrix.ensures
