use Rattle.std.proofs.Common.{◌≡◌, ◌∙◌, All, length, subst, sym, ap, arith}
use Rattle.std.proofs.lemmas.List.Elements.{All-weaker}
use Rattle.column_order.specs.Orders.{IsOrder, IsWithin}
use Rattle.column_order.proofs.Counts.{order_length}
use Rattle.row_model.specs.Positions.{ArePositions}
use Rattle.row_model.specs.Rows.{IsRow}
use Rattle.row_model.proofs.Ascending.{row_within}
use Rattle.clone_map.specs.Runs.{AreRuns, IsWithinPositions}
use Rattle.clone_map.proofs.ContigLaws.{runs_are_contigs}
use Rattle.clone_map.proofs.PlaceLaws.{places_within}
use Rattle.clone_map.proofs.placed.place.Goals as goal

pub positions-requires-clause-order : goal.positions-requires-clause-order
positions-requires-clause-order c =
    let o = c.args.order.now in
    subst (λ n. IsOrder n o) (sym (order_length c.args.m.now.columns o c.requires.order)) c.requires.order

pub positions-requires-clause-few : goal.positions-requires-clause-few
positions-requires-clause-few c = omega (arith, order_length c.args.m.now.columns c.args.order.now c.requires.order, c.columns-columns.ensures.columns, c.columns-columns.ensures.range)

pub places_of-requires : goal.places_of-requires
places_of-requires c = ap length c.deref.ensures.value ∙ c.in_ok-positions.ensures.columns ∙ order_length c.args.m.now.columns c.args.order.now c.requires.order

pub contigs_of-requires : goal.contigs_of-requires
contigs_of-requires c =
    let o = c.args.order.now in
    let columns = c.args.m.now.columns in
    let long : length o ≡ c.columns-columns.result = order_length columns o c.requires.order ∙ sym c.columns-columns.ensures.columns in
    let are : ArePositions o c.deref.result.now = subst (ArePositions o) (sym c.deref.ensures.value) c.in_ok-positions.ensures in
    subst (λ n. All (IsWithinPositions n) c.as_slice.result.now) long
    (subst (All (IsWithinPositions (length o))) (sym c.as_slice.ensures)
    (places_within o c.args.m.now.rows c.in_ok-places.places (c.in_ok-places.ensures.places o c.requires.order are)))

pub returns-clause-contigs : goal.returns-clause-contigs
returns-clause-contigs c =
    let o = c.args.order.now in
    let columns = c.args.m.now.columns in
    let rows = c.args.m.now.rows in
    let long : length o ≡ c.columns-columns.result = order_length columns o c.requires.order ∙ sym c.columns-columns.ensures.columns in
    let are : ArePositions o c.deref.result.now = subst (ArePositions o) (sym c.deref.ensures.value) c.in_ok-positions.ensures in
    let within : All (IsWithin columns) rows = All-weaker (IsRow columns) (IsWithin columns) (row_within columns) rows c.in_ok-places.ensures.rows in
    let runs : AreRuns c.columns-columns.result c.in_ok-places.places c.in_ok-contigs.contigs = subst (λ places. AreRuns c.columns-columns.result places c.in_ok-contigs.contigs) c.as_slice.ensures c.in_ok-contigs.ensures in
    runs_are_contigs rows o c.in_ok-places.places (c.in_ok-places.ensures.places o c.requires.order are) columns c.in_ok-contigs.contigs within c.requires
    (subst (λ n. AreRuns n c.in_ok-places.places c.in_ok-contigs.contigs) (sym long) runs)
