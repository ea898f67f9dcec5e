use Rattle.std.proofs.Common.{◌≡◌, ◌∙◌, ◌+◌, length, ap, arith}
use Rattle.std.proofs.lemmas.List.FromFn.{length-map-range_with_len}
use Rattle.row_model.specs.Rows.{RowList}
use Rattle.row_model.proofs.Filtered.{filtered_row}
use Rattle.proper_interval.specs.Umbrellas.{is_in_closed, closed_row}
use Rattle.proper_interval.proofs.ClosedLemmas.{closed_next}
use Rattle.proper_interval.proofs.rows.closed_rows.Goals as goal

pub push_row-requires-clause-row : goal.push_row-requires-clause-row
push_row-requires-clause-row c =
    rw (c.loop-before.invariant, c.deref.ensures.value, c.in_ok-list_closed.ensures)
    (filtered_row (is_in_closed c.args.g.now (c.loop-before.before + 1)) c.args.g.now.vertices)

pub push_row-requires-clause-room : goal.push_row-requires-clause-room
push_row-requires-clause-room c =
    let g = c.args.g.now in
    let rows : length c.loop-before.rows.rows ≡ c.loop-before.before = ap (λ (m : RowList). length m.rows) c.loop-before.invariant ∙ length-map-range_with_len (closed_row g) 1 c.loop-before.before in
    omega (arith, rows, c.vertices.ensures.graph.vertices.1)

pub loop-before-preserved : goal.loop-before-preserved
loop-before-preserved c =
    let g = c.args.g.now in
    let next : c.deref.result.now ≡ closed_row g (c.loop-before.before + 1) = c.deref.ensures.value ∙ c.in_ok-list_closed.ensures in
    closed_next g c.loop-before.before c.loop-before.rows c.push_row.new.self c.deref.result.now c.loop-before.invariant next c.in_ok-push_row.ensures.ok
