use Rattle.std.proofs.Common.{◌∙◌, ◌++◌, length, flat_map, sym, ap, append-nil, arith}
use Rattle.std.proofs.lemmas.List.{take_all}
use Rattle.solve_replies.specs.Lists.{order_line}
use Rattle.solve_replies.proofs.Lists.{orders_next, orders_told}
use Rattle.solve_replies.proofs.list_text.print_orders.Goals as goal

pub loop-i-init : goal.loop-i-init
loop-i-init c = sym (append-nil c.push-2.new.text.items)

pub loop-i-preserved : goal.loop-i-preserved
loop-i-preserved c =
    orders_next order_line c.args.found.now.orders c.loop-i.i c.order.result.now c.push-2.new.text.items c.loop-i.text.items c.print_order.new.text.items c.order.ensures c.loop-i.invariant
    c.in_ok-print_order.ensures

pub returns : goal.returns
returns c =
    let orders = c.args.found.now.orders in
    let whole = take_all c.loop-i.i orders (omega arith) in
    orders_told c.args.text.now.items c.push.new.text.items c.push_number.new.text.items c.push-2.new.text.items c.loop-i.text.items (flat_map order_line orders) (length orders) c.from.result
    c.in_ok-push.ensures.ok c.in_ok-push_number.ensures.ok c.in_ok-push-2.ensures.ok (c.loop-i.invariant ∙ ap (λ os. c.push-2.new.text.items ++ flat_map order_line os) whole) (c.from.ensures ∙ c.len.ensures)
