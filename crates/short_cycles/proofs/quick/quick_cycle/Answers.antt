use Rattle.std.proofs.Common.{◌≡◌, length, sym, subst, arith}
use Rattle.column_order.specs.Orders.{IsOrder}
use Rattle.column_order.proofs.Counts.{order_length}
use Rattle.short_cycles.proofs.quick.quick_cycle.Goals as goal

pub positions-requires-clause-order : goal.positions-requires-clause-order
positions-requires-clause-order g c =
    let order = c.args.order.now in
    subst (λ n. IsOrder n order) (sym (order_length c.args.m.now.columns order c.requires.order.order)) c.requires.order.order

pub positions-requires-clause-few : goal.positions-requires-clause-few
positions-requires-clause-few g c = omega (arith, order_length c.args.m.now.columns c.args.order.now c.requires.order.order, c.columns.ensures.columns, c.columns.ensures.range)

pub returns-in_err-sample-clause-ticks : goal.returns-in_err-sample-clause-ticks
returns-in_err-sample-clause-ticks g c =
    let long : length c.args.order.now ≡ c.args.m.now.columns = order_length c.args.m.now.columns c.args.order.now c.requires.order.order in
    omega (arith, long, c.columns.ensures.columns, c.in-Some.ensures, c.sample_of.ensures)

pub returns-in_err-cycle-clause-ticks : goal.returns-in_err-cycle-clause-ticks
returns-in_err-cycle-clause-ticks g c =
    let long : length c.args.order.now ≡ c.args.m.now.columns = order_length c.args.m.now.columns c.args.order.now c.requires.order.order in
    omega (arith, long, c.columns.ensures.columns, c.in-Some.ensures, c.sample_of.ensures, c.near_cycle.ensures.ticks)

pub returns-in-Some-2-clause-ticks : goal.returns-in-Some-2-clause-ticks
returns-in-Some-2-clause-ticks g c =
    let long : length c.args.order.now ≡ c.args.m.now.columns = order_length c.args.m.now.columns c.args.order.now c.requires.order.order in
    omega (arith, long, c.columns.ensures.columns, c.in-Some.ensures, c.sample_of.ensures, c.near_cycle.ensures.ticks)

pub returns-clause-ticks : goal.returns-clause-ticks
returns-clause-ticks g c =
    let long : length c.args.order.now ≡ c.args.m.now.columns = order_length c.args.m.now.columns c.args.order.now c.requires.order.order in
    omega (arith, long, c.columns.ensures.columns, c.in-Some.ensures, c.sample_of.ensures, c.near_cycle.ensures.ticks, c.far_cycle.ensures.ticks)

pub sample_of-requires : goal.sample_of-requires
sample_of-requires g c = c.requires.row

pub near_cycle-requires : goal.near_cycle-requires
near_cycle-requires g c = record { row = c.requires.row.1; columns = c.requires.columns }

pub far_cycle-requires : goal.far_cycle-requires
far_cycle-requires g c = record { row = c.requires.row.1; columns = c.requires.columns; few = c.in_ok-sample.ensures.few }

pub returns-clause-found : goal.returns-clause-found
returns-clause-found g c = c.far_cycle.ensures.found

pub returns-clause-short : goal.returns-clause-short
returns-clause-short g c = c.far_cycle.ensures.short

pub returns-in_default : goal.returns-in_default
returns-in_default g c = record { found = tt; short = tt; ticks = omega arith }

pub returns-in-Some-2-clause-found : goal.returns-in-Some-2-clause-found
returns-in-Some-2-clause-found g c = rw c.in-Some-2.is at c.in_ok-cycle.ensures.found

pub returns-in-Some-2-clause-short : goal.returns-in-Some-2-clause-short
returns-in-Some-2-clause-short g c = rw c.in-Some-2.is at c.in_ok-cycle.ensures.short
