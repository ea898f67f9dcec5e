use Rattle.std.proofs.Common.{◌∙◌, length, ap, sym}
use Rattle.order_list.specs.Listed.{OrderList}
use Rattle.order_list.proofs.Pieces.{length-cut}
use Rattle.order_list.proofs.orders.Orders.len.Goals as goal

pub returns : goal.returns
returns c =
    sym (length-cut c.self.inside.count c.self.inside.columns c.self.inside.numbers.items) ∙ ap (λ (l : OrderList). length l.orders) c.self.view_is
