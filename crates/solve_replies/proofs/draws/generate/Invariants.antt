use Rattle.std.proofs.Common.{◌≡◌, ◌-◌, ◌++◌, length}
use Rattle.solve_replies.specs.Generated.{generated, drawn_rows}
use Rattle.solve_replies.specs.Drawing.{CanDraw}
use Rattle.solve_replies.proofs.draws.generate.Given as goal

-- the rows so far and those that are left to draw are all rows
abbrev pub invariant-loop-k : goal.invariant-loop-k
invariant-loop-k l =
    (l.matrix.columns ≡ l.columns) ×
    (length l.matrix.rows ≡ l._k) ×
    CanDraw l.columns l.drawn.order.items l.drawn.positions.items l.drawn.row.items ×
    ((generated l.fn.seed l.columns l.rows).rows ≡ l.matrix.rows ++ drawn_rows (l.rows - l._k) l.drawn.order.items l.drawn.draws.state)
