use Rattle.std.proofs.Common.{◌≡◌, length}
use Rattle.std.specs.List.{range_with_len}
use Rattle.column_order.specs.Orders.{IsOrder}
use Rattle.solve_replies.specs.Generated.{shuffled, hidden}
use Rattle.solve_replies.proofs.draws.shuffled_order.Given as goal

-- the first columns are listed
abbrev pub invariant-loop-before : goal.invariant-loop-before
invariant-loop-before l = l.order.items ≡ range_with_len 1 l.before

-- what is left to exchange makes the hidden order
abbrev pub invariant-loop-i : goal.invariant-loop-i
invariant-loop-i l =
    (hidden l.fn.draws.state l.columns ≡ shuffled l.i (record { order = l.order.items; state = l.draws.state })) ×
    (length l.order.items ≡ l.columns) ×
    IsOrder l.columns l.order.items
