use Rattle.std.proofs.Common.{◌+◌, ◌≤◌, drop}
use Rattle.walk_search.specs.MarkedOnes.{marked_ones}
use Rattle.walk_search.proofs.TakenLaws.{IsExpanding}
use Rattle.walk_search.proofs.search.expand.Given as goal

abbrev pub invariant-loop-row : goal.invariant-loop-row
invariant-loop-row g l =
    record {
      expanding : IsExpanding l.m l.near l.fn.marks l.marks l.fn.forest l.forest l.from l.row-items l.row-index;
      ticks : l.steps + marked_ones (drop l.near.first l.m.rows) l.fn.marks ≤ l.initial.steps + l.row-index + marked_ones (drop l.near.first l.m.rows) l.marks;
      costs : l.initial.steps + l.row-index ≤ l.steps;
    }
