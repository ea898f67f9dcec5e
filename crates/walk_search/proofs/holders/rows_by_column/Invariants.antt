use Rattle.std.proofs.Common.{◌≡◌, ◌+◌, ◌-◌, ◌≤◌, [], length, replicate, take, drop, sum_by}
use Rattle.row_model.specs.Graph.{row_at}
use Rattle.walk_search.specs.Holders.{AreHolders, without}
use Rattle.walk_search.proofs.HolderLaws.{lists_of, HoldersSoFar}
use Rattle.walk_search.proofs.holders.rows_by_column.Given as goal

abbrev pub invariant-loop : goal.invariant-loop
invariant-loop g l = record { lists : lists_of l.holders.items ≡ replicate l.counter []; counted : l.steps ≡ l.fn.steps + l.counter }

abbrev pub invariant-loop-column : goal.invariant-loop-column
invariant-loop-column g l =
    record {
      holders : HoldersSoFar (without l.first l.m) l.k (row_at (drop l.first l.m.rows) (l.k + 1)) l.i (lists_of l.holders.items);
      within : l.i ≤ length (row_at (drop l.first l.m.rows) (l.k + 1));
      counted : l.steps ≡ l.initial.steps + l.i;
    }

abbrev pub invariant-loop-k : goal.invariant-loop-k
invariant-loop-k g l =
    record {
      holders : AreHolders (without l.first l.m) l.k (lists_of l.holders.items);
      counted : l.steps ≡ l.initial.steps + sum_by length (take l.k (drop l.first l.m.rows));
    }

abbrev pub decreases-loop-column : goal.decreases-loop-column
decreases-loop-column g l = length (row_at l.m.rows (l.first + l.k + 1)) - l.i
