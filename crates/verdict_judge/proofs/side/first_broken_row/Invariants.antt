use Rattle.std.proofs.Common.{ℕ, ◌+◌, ◌*◌, ◌≤◌, length, take, sum_by}
use Rattle.row_model.specs.Graph.{row_at}
use Rattle.pq_tree.specs.PqTree.{outline}
use Rattle.verdict_judge.specs.YesTests.{AllKeep}
use Rattle.verdict_judge.proofs.side.first_broken_row.Given as goal

abbrev pub invariant-loop-k : goal.invariant-loop-k
invariant-loop-k g l = record {
  kept : (k : ℕ) → 1 ≤ k → k ≤ l.k → AllKeep (outline l.tree) (row_at l.m.rows k);
  ticks : l.steps ≤ l.fn.steps + (l.k + 2 * sum_by length (take l.k l.m.rows));
}
