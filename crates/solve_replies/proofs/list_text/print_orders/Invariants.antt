use Rattle.std.proofs.Common.{◌≡◌, ◌++◌, take, flat_map}
use Rattle.solve_replies.specs.Lists.{order_line}
use Rattle.solve_replies.proofs.list_text.print_orders.Given as goal

abbrev pub invariant-loop-i : goal.invariant-loop-i
invariant-loop-i l = l.text.items ≡ l.initial.text.items ++ flat_map order_line (take l.i l.found.orders)
