use Rattle.std.proofs.Common.{◌*◌, ◌-◌, ◌<◌, ◌∙◌, length, take, drop, slice_get, Some, ap, sym, arith}
use Rattle.order_list.specs.Listed.{OrderList}
use Rattle.order_list.proofs.Pieces.{length-cut, piece_within, get_cut}
use Rattle.order_list.proofs.orders.Orders.order.Goals as goal

pub piece-requires : goal.piece-requires
piece-requires c =
    let k = c.self.inside.count in
    let n = c.self.inside.columns in
    let i = c.args.i - 1 in
    let less : i < k =
    omega (arith, c.requires, ap (λ (l : OrderList). length l.orders) c.self.view_is, length-cut k n c.self.inside.numbers.items) in
    omega (arith, piece_within k n i less, c.deref.ensures.value, ap length c.deref.ensures.value, c.self.invariant)

pub returns : goal.returns
returns c =
    let k = c.self.inside.count in
    let n = c.self.inside.columns in
    let i = c.args.i - 1 in
    let numbers = c.self.inside.numbers.items in
    let less : i < k = omega (arith, c.requires, ap (λ (l : OrderList). length l.orders) c.self.view_is, length-cut k n numbers) in
    ap (λ (l : OrderList). slice_get l.orders i) (sym c.self.view_is) ∙ get_cut k n i numbers less ∙
    ap Some (ap (λ l. take n (drop (i * n) l)) (sym c.deref.ensures.value) ∙ sym c.piece.ensures)
