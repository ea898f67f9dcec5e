use Rattle.std.proofs.Common.{◌≡◌, ◌-◌, []}
use Rattle.c1p_solve.specs.Growing.{HasTaken}
use Rattle.solve_replies.specs.Drawing.{CanDraw}
use Rattle.solve_replies.specs.Generated.{generated}
use Rattle.solve_replies.proofs.Grown.{IsGrown}
use Rattle.solve_replies.proofs.summaries.grow.Given as goal

-- the rows that are drawn so far are taken
abbrev pub invariant-loop-k : goal.invariant-loop-k
invariant-loop-k g l = record {
  columns : l.row.columns ≡ l.columns;
  none : l.row.rows ≡ [];
  ready : CanDraw l.columns l.drawn.order.items l.drawn.positions.items l.drawn.row.items;
  grown : IsGrown (λ done. HasTaken l.columns done l.reducer l.fn.steps l.steps) l._k (l.rows - l._k) (generated l.fn.seed l.columns l.rows).rows l.ones l.drawn.order.items l.drawn.draws.state;
}
