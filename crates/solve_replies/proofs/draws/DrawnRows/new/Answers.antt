use Rattle.std.proofs.Common.{◌∙◌, length, sym, ap, subst, arith}
use Rattle.column_order.specs.Orders.{IsOrder}
use Rattle.column_order.proofs.Counts.{order_length}
use Rattle.solve_replies.specs.Generated.{hidden}
use Rattle.solve_replies.proofs.draws.DrawnRows.new.Goals as goal

pub positions-requires-clause-order : goal.positions-requires-clause-order
positions-requires-clause-order c =
    let whole = c.in_ok-order.ensures.whole in
    let ordered = subst (λ n. IsOrder n c.in_ok-order.order.items) (sym (order_length c.args.columns c.in_ok-order.order.items whole)) whole in
    subst (λ xs. IsOrder (length xs) xs) (sym c.deref.ensures.value) ordered

pub positions-requires-clause-few : goal.positions-requires-clause-few
positions-requires-clause-few c =
    omega (arith, ap length c.deref.ensures.value, order_length c.args.columns c.in_ok-order.order.items c.in_ok-order.ensures.whole, c.requires)

pub returns-clause-hidden : goal.returns-clause-hidden
returns-clause-hidden c =
    let all = hidden c.args.seed c.args.columns in
    ap (λ xs. record { order = xs; state = c.shuffled_order.new.draws.state }) c.in_ok-order.ensures.order ∙ ap (λ x. record { order = all.order; state = x }) c.in_ok-order.ensures.state
