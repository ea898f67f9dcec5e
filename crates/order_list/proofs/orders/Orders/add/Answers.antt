use Rattle.std.proofs.Common.{arith}
use Rattle.order_list.proofs.Pieces.{added_room, added_full}
use Rattle.order_list.proofs.orders.Orders.add.Goals as goal

pub returns-in_ok-extend_from_slice : goal.returns-in_ok-extend_from_slice
returns-in_ok-extend_from_slice c =
    added_room c.self.inside.columns c.self.inside.count c.args.limit c.self.inside.numbers.items c.args.order.now c.self.inside.more c.args.self.now c.self.view_is
    c.extend_from_slice.new.self.items c.self.invariant c.requires (omega (arith, c.if-self-limit.true)) c.in_ok-extend_from_slice.ensures.items

pub returns-else-self-limit : goal.returns-else-self-limit
returns-else-self-limit c =
    added_full c.self.inside.columns c.self.inside.count c.args.limit c.self.inside.numbers.items c.args.order.now c.self.inside.more c.args.self.now c.self.view_is
    (omega (arith, c.if-self-limit.false))
