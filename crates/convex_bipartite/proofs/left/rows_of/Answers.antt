use Rattle.row_model.proofs.Pushed.{copied_row}
use Rattle.convex_bipartite.proofs.left.rows_of.Goals as goal

pub loop-k-preserved : goal.loop-k-preserved
loop-k-preserved c = copied_row _ _ _ _ _ _ c.in_ok-push_row.ensures.ok c.loop-k.invariant c.neighbours.ensures.list
