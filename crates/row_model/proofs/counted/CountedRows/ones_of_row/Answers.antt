use Rattle.std.proofs.Common.{◌≡◌, ◌∙◌, ◌-◌, [], length, ap, sym, arith}
use Rattle.std.proofs.lemmas.Option.{get_or_from_slice_get}
use Rattle.row_model.specs.Graph.{row_at}
use Rattle.row_model.proofs.Ascending.{ascends_few}
use Rattle.row_model.proofs.counted.CountedRows.ones_of_row.Goals as goal

pub returns-clause-few : goal.returns-clause-few
returns-clause-few c =
    let m = c.self.inside.matrix.now in
    let row = c.row-row.result.now in
    let read : row_at m.rows c.args.k ≡ row = get_or_from_slice_get m.rows (c.args.k - 1) row [] c.row-row.ensures.row in
    let long : length (row_at c.args.self.now.rows c.args.k) ≡ length row = ap (λ v. length (row_at v.rows c.args.k)) (sym c.self.view_is) ∙ ap length read in
    let columns : m.columns ≡ c.args.self.now.columns = ap (λ v. v.columns) c.self.view_is in
    (omega (arith, long, columns, ascends_few m.columns 0 row c.row-row.ensures.ascending), omega (arith, columns, c.columns-columns.ensures.columns, c.columns-columns.ensures.range.1))
