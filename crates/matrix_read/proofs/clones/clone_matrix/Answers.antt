use Rattle.std.proofs.Common.{◌≡◌, ◌∙◌, false, length, replicate, ap, arith}
use Rattle.std.proofs.lemmas.List.{length-replicate}
use Rattle.row_model.specs.Rows.{RowList}
use Rattle.matrix_read.proofs.MarkLemmas.{none_set}
use Rattle.matrix_read.proofs.clones.clone_matrix.Goals as goal

pub filled-requires : goal.filled-requires
filled-requires c =
    let marks : c.deref_mut.result.now ≡ replicate c.len.result false = c.deref_mut.ensures.value ∙ c.in_ok-marks.ensures.items_if_clones_equal (λ y same. same) in
    let columns : c.deref_mut-2.result.now ≡ replicate c.len-2.result 0 = c.deref_mut-2.ensures.value ∙ c.in_ok-columns.ensures.items_if_clones_equal (λ y same. same) in
    record {
      empty = ap (λ (m : RowList). m.rows) c.in_ok-matrix.ensures;
      width = omega (arith, ap (λ (m : RowList). m.columns) c.in_ok-matrix.ensures, c.len-3.ensures.len, c.requires.small);
      small = c.requires.small;
      few = c.requires.few;
      marks = ap length marks ∙ length-replicate c.len.result false ∙ c.len.ensures.len;
      clear = none_set _ _ marks;
      columns = ap length columns ∙ length-replicate c.len-2.result 0 ∙ c.len-2.ensures.len;
    }

pub returns : goal.returns
returns c = c.filled.ensures
