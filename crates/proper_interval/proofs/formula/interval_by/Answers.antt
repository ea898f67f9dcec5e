use Rattle.std.proofs.Common.{◌-◌, [], sym, subst, arith}
use Rattle.std.proofs.lemmas.Option.{get_or_from_slice_get}
use Rattle.column_order.specs.Orders.{IsWithin}
use Rattle.row_model.proofs.Ascending.{row_within}
use Rattle.proper_interval.proofs.ReachLemmas.{as_many, placed, farthest_within}
use Rattle.proper_interval.proofs.formula.interval_by.Goals as goal

pub bounds-positions-v : goal.bounds-positions-v
bounds-positions-v c = omega (arith, as_many c.args.g.now c.args.positions.now c.requires.positions, c.requires.v.0, c.requires.v.1)

pub farthest-requires : goal.farthest-requires
farthest-requires c =
    subst (λ n. IsWithin n c.neighbours.result.now) (sym (as_many c.args.g.now c.args.positions.now c.requires.positions)) (row_within c.args.g.now.vertices c.neighbours.result.now c.neighbours.ensures.ascending)

pub interval-requires-clause-position : goal.interval-requires-clause-position
interval-requires-clause-position c =
    let p = c.requires.positions in
    omega (arith, (placed c.args.g.now p.o c.args.positions.now p.order p.places c.args.v c.requires.v).to)

pub interval-requires-clause-last : goal.interval-requires-clause-last
interval-requires-clause-last c =
    let p = c.requires.positions in
    let g = c.args.g.now in
    let positions = c.args.positions.now in
    let here = placed g p.o positions p.order p.places c.args.v c.requires.v in
    omega (arith, farthest_within g p.o positions p.order p.places c.neighbours.result.now _ c.farthest.result (row_within g.vertices c.neighbours.result.now c.neighbours.ensures.ascending) here.to c.farthest.ensures)

pub returns : goal.returns
returns c =
    let row = get_or_from_slice_get c.args.g.now.neighbours (c.args.v - 1) c.neighbours.result.now [] c.neighbours.ensures.list in
    record {
      last = c.farthest.result;
      farthest = rw row c.farthest.ensures;
      is = rw (← c.vertices-n.ensures.vertices) c.interval.ensures;
    }
