use Rattle.std.proofs.Common.{◌≡◌, ◌≤◌, take, IsTrue}
use Rattle.column_order.specs.Orders.{HasValidOrder}
use Rattle.pq_tree.specs.Amortised.{weight}
use Rattle.tree_theory.specs.Tied.{IsTied}
use Rattle.c1p_solve.proofs.Sums.{IsPaidSoFar}
use Rattle.c1p_solve.proofs.solver.reduce_all.Given as goal

abbrev pub invariant-loop-taken : goal.invariant-loop-taken
invariant-loop-taken g l = record {
  columns : g.R.Reducer.columns l.reducer ≡ l.m.columns;
  tied : IsTied l.m.columns (take l.taken l.m.rows) (g.R.Reducer.outline l.reducer);
  order : HasValidOrder l.m.columns (take l.taken l.m.rows);
  paid : IsTrue g.R.Reducer.frugal → weight (g.R.Reducer.outline l.fn.reducer) ≤ l.m.columns →
      IsPaidSoFar l.m.columns l.m.rows l.taken (weight (g.R.Reducer.outline l.reducer)) l.fn.steps l.steps;
}
