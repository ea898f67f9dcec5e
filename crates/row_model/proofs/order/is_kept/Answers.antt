use Rattle.std.proofs.Common.{◌-◌, ◌+◌, length, eqb-true, eq-eqb}
use Rattle.row_model.proofs.Ascending.{row_within, row_once}
use Rattle.row_model.proofs.PositionLemmas.{kept_by_span}
use Rattle.row_model.proofs.order.is_kept.Goals as goal

pub span_of-requires : goal.span_of-requires
span_of-requires c = row_within (length c.args.positions.now) c.args.row.now c.requires

pub returns-in-Some : goal.returns-in-Some
returns-in-Some c o order are =
    let span = c.in-Some.span in
    let c' = length c.args.positions.now in
    let row = c.args.row.now in
    let k = kept_by_span c' o c.args.positions.now row order are (row_within c' row c.requires) span c.in-Some.ensures.least (row_once c' row c.requires) in
    (λ h. k.1 (eqb-true (span.last - span.first + 1) (length row) h), λ h. eq-eqb (span.last - span.first + 1) (length row) (k.0 h))
