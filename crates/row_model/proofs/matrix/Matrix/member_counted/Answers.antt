use Rattle.std.proofs.Common.{◌-◌, ◌<◌, [], length, slice_index_or, arith, ap}
use Rattle.std.proofs.lemmas.Option.{get_or_from_slice_get}
use Rattle.column_order.proofs.Lists.{has_at}
use Rattle.row_model.proofs.Ascending.{row_within}
use Rattle.row_model.proofs.matrix.Matrix.member_counted.Goals as goal

-- src/matrix.rt:139:5
pub returns-clause-range : goal.returns-clause-range
returns-clause-range g c =
    let row = get_or_from_slice_get c.args.self.now.rows (c.args.k - 1) c.row.result.now [] c.row.ensures.row in
    let len : c.args.i - 1 < length c.row.result.now = omega (arith, c.requires.member.0, c.requires.member.1, ap length row) in
    row_within c.args.self.now.columns c.row.result.now c.row.ensures.ascending (slice_index_or c.row.result.now (c.args.i - 1) 0) (has_at c.row.result.now (c.args.i - 1) len)
