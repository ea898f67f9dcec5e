use Rattle.std.proofs.Common.{◌≡◌, ◌+◌, ◌-◌, ◌≤◌, length, take, drop}
use Rattle.row_model.specs.Graph.{row_at}
use Rattle.walk_search.proofs.SearchLaws.{IsSpreading}
use Rattle.walk_search.proofs.search.look.Given as goal

abbrev pub invariant-loop-column : goal.invariant-loop-column
invariant-loop-column g l =
    record {
      spreading : IsSpreading l.m.columns (take (l.near.first + l.fn.marks.rows) l.m.rows) (row_at (drop l.near.first l.m.rows) l.further) l.fn.forest l.forest l.node l.i;
      within : l.i ≤ length (row_at (drop l.near.first l.m.rows) l.further);
      ticks : l.steps ≡ l.fn.steps + 1 + l.i;
    }

abbrev pub decreases-loop-column : goal.decreases-loop-column
decreases-loop-column g l = length (row_at l.m.rows (l.near.first + l.further)) - l.i
