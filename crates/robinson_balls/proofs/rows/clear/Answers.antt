use Rattle.std.proofs.Common.{◌∙◌, ◌-◌, length, ap, arith}
use Rattle.std.proofs.lemmas.List.{length-take-le, nil_from_length}
use Rattle.row_model.specs.Rows.{RowList}
use Rattle.robinson_balls.proofs.RowLemmas.{same_matrix}
use Rattle.robinson_balls.proofs.rows.clear.Goals as goal

pub loop-k-preserved : goal.loop-k-preserved
loop-k-preserved c =
    let rows = c.loop-k.matrix.rows in
    record {
      columns = ap (λ (m : RowList). m.columns) c.pop_row.ensures ∙ c.loop-k.invariant.columns;
      left = omega (arith, ap (λ (m : RowList). length m.rows) c.pop_row.ensures, length-take-le (length rows - 1) rows (omega arith), c.loop-k.invariant.left);
    }

pub returns : goal.returns
returns c =
    same_matrix c.loop-k.matrix c.args.matrix.now.columns _ c.loop-k.invariant.columns (nil_from_length c.loop-k.matrix.rows (omega (arith, c.loop-k.invariant.left)))
