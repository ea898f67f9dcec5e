use Rattle.std.proofs.Common.{◌∙◌, List, ℕ, length, ap, arith, length-append}
use Rattle.row_model.specs.Rows.{RowList}
use Rattle.every_order_tests.proofs.tests.small.matrix_of.Goals as goal

pub loop-number-preserved : goal.loop-number-preserved
loop-number-preserved c =
    let before = c.loop-number.m in
    let after = c.in_ok-push_row.ensures.ok in
    record {
      columns = ap (λ (m : RowList). m.columns) after ∙ c.loop-number.invariant.columns;
      rows = omega (arith, ap (λ (m : RowList). length m.rows) after, length-append {A = List ℕ}, c.loop-number.invariant.rows);
    }
