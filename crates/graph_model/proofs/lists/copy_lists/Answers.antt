use Rattle.std.proofs.Common.{◌≡◌, ◌∙◌, ◌∷◌, ◌++◌, ◌+◌, ◌-◌, [], ap, sym, arith, append_assoc, slice_range, get_or}
use Rattle.std.proofs.lemmas.Option.{get_or_from_slice_get}
use Rattle.row_model.specs.Rows.{RowList}
use Rattle.graph_model.proofs.GraphLemmas.{range_more}
use Rattle.graph_model.proofs.lists.copy_lists.Goals as goal

pub loop-k-preserved : goal.loop-k-preserved
loop-k-preserved c =
    let old = c.args.old.now.rows in
    let k = c.loop-k.k in
    let row = c.row.result.now in
    let before = c.args.lists.now in
    let at : k + 1 - 1 ≡ k = omega arith in
    let is : get_or old k [] ≡ row = ap (λ i. get_or old i []) (sym at) ∙ get_or_from_slice_get old (k + 1 - 1) row [] c.row.ensures.row in
    let more = range_more old c.args.from k row (omega arith) (omega arith) is in
    record {
      copied =
          c.in_ok-push_row.ensures.ok
          ∙ ap (λ (m : RowList). record { columns = m.columns; rows = m.rows ++ row ∷ [] }) c.loop-k.invariant.copied
          ∙ ap (λ rows. record { columns = before.columns; rows = rows }) (append_assoc before.rows (slice_range old c.args.from k) (row ∷ []) ∙ ap (λ t. before.rows ++ t) (sym more));
    }
