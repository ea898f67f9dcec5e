use Rattle.clone_map.proofs.PlaceLaws.{span_place}
use Rattle.row_model.proofs.Ascending.{row_within}
use Rattle.std.proofs.Common.{length}
use Rattle.clone_map.proofs.places.place_of.Goals as goal

pub span_of-requires : goal.span_of-requires
span_of-requires c = row_within (length c.args.positions.now) c.args.row.now c.requires

pub returns-in-Some : goal.returns-in-Some
returns-in-Some c = λ order is are.
    let columns = length c.args.positions.now in
    let row = c.args.row.now in
    span_place columns order c.args.positions.now row c.in-Some.field-0 is are (row_within columns row c.requires) c.in-Some.ensures.least (c.in-Some.ensures.spans order is are)
