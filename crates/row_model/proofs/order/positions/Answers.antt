use Rattle.std.proofs.Common.{length, arith}
use Rattle.column_order.proofs.Lists.{has_at}
use Rattle.column_order.proofs.Counts.{order_within}
use Rattle.row_model.proofs.PositionLemmas.{positions_more, positions_all}
use Rattle.row_model.proofs.order.positions.Goals as goal

pub overflow_sub-column : goal.overflow_sub-column
overflow_sub-column c = (order_within (length c.args.order.now) c.args.order.now c.requires.order _ (has_at c.args.order.now c.loop-i.i c.loop-i-test.true)).0

pub index_mut-requires : goal.index_mut-requires
index_mut-requires c =
    let r = order_within (length c.args.order.now) c.args.order.now c.requires.order _ (has_at c.args.order.now c.loop-i.i c.loop-i-test.true) in
    omega (arith, r.0, r.1, c.loop-i.invariant.columns, c.loop-i.positions.ok.0)

pub loop-i-preserved : goal.loop-i-preserved
loop-i-preserved c = positions_more c.args.order.now c.loop-i.positions.items c.loop-i.i c.requires.order c.loop-i-test.true c.loop-i.invariant

pub returns : goal.returns
returns c = positions_all c.args.order.now c.loop-i.positions.items c.loop-i.i c.loop-i.invariant c.loop-i-test.false
