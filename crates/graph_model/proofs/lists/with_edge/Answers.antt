use Rattle.std.proofs.Common.{◌≡◌, ◌∙◌, ◌-◌, [], false, ap, sym, arith, get_or}
use Rattle.std.proofs.lemmas.Option.{get_or_from_slice_get}
use Rattle.column_order.specs.Orders.{has}
use Rattle.row_model.specs.Rows.{RowList}
use Rattle.graph_model.specs.Graphs.{with_number}
use Rattle.graph_model.proofs.GraphLemmas.{ascends-with_number, lists_added}
use Rattle.graph_model.proofs.lists.with_edge.Goals as goal

pub push_row-requires-clause-row : goal.push_row-requires-clause-row
push_row-requires-clause-row c =
    let old = c.args.old.now in
    let row = c.row.result.now in
    let row_is : get_or old.rows (c.args.x - 1) [] ≡ row = get_or_from_slice_get old.rows (c.args.x - 1) row [] c.row.ensures.row in
    let narrow : c.copy_lists.new.lists.columns ≡ old.columns =
    ap (λ (m : RowList). m.columns) c.in_ok-copy_lists.ensures ∙ ap (λ (m : RowList). m.columns) c.in_ok-lists.ensures ∙ c.columns.ensures.columns in
    let new : has row c.args.y ≡ false = rw row_is at c.requires.new in
    rw (narrow, c.deref.ensures.value, c.in_ok-longer.ensures) (ascends-with_number old.columns 0 c.args.y row c.row.ensures.ascending (omega arith) (omega arith) new)

pub returns : goal.returns
returns c =
    let old = c.args.old.now in
    let row = c.row.result.now in
    let row_is : get_or old.rows (c.args.x - 1) [] ≡ row = get_or_from_slice_get old.rows (c.args.x - 1) row [] c.row.ensures.row in
    let longer : c.deref.result.now ≡ with_number c.args.y (get_or old.rows (c.args.x - 1) []) =
    c.deref.ensures.value ∙ c.in_ok-longer.ensures ∙ ap (with_number c.args.y) (sym row_is) in
    lists_added old c.in_ok-lists.lists c.copy_lists.new.lists c.push_row.new.self c.copy_lists-2.new.lists c.columns.result c.args.x c.rows.result _
    (omega arith) (omega arith) c.rows.ensures c.columns.ensures.columns c.in_ok-lists.ensures c.in_ok-copy_lists.ensures (rw longer at c.in_ok-push_row.ensures.ok) c.in_ok-copy_lists-2.ensures
