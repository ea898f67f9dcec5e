use Rattle.std.proofs.Common.{◌≡◌, ap, sym, subst}
use Rattle.row_model.specs.Rows.{IsRow, RowList}
use Rattle.tree_meet.proofs.Steps.{row_among}
use Rattle.tree_meet.proofs.rows.push_lists.Goals as goal

pub push_row-requires-clause-row : goal.push_row-requires-clause-row
push_row-requires-clause-row c =
    let columns : c.loop-row.m.columns ≡ c.args.m.now.columns = ap (λ (x : RowList). x.columns) c.loop-row.invariant in
    subst (λ n. IsRow n c.deref.result.now) (sym columns)
    (subst (IsRow c.args.m.now.columns) (sym c.deref.ensures.value) (row_among c.args.m.now.columns c.args.rows.now c.loop-row.row-index c.row-item.result c.loop-row-test.true c.row-item.is c.requires.rows))
