use Rattle.std.proofs.Common.{◌+◌, ◌≤◌, drop}
use Rattle.walk_search.specs.MarkedOnes.{marked_ones}
use Rattle.walk_search.specs.Weights.{weights}
use Rattle.walk_search.proofs.SettledLaws.{IsGrownFrom}
use Rattle.walk_search.proofs.search.grow_from_column.Given as goal

abbrev pub invariant-loop-b : goal.invariant-loop-b
invariant-loop-b g l =
    record {
      grown : IsGrownFrom l.m l.near l.fn.marks l.marks l.fn.forest l.forest l.a l.b;
      ticks : l.steps + marked_ones (drop l.near.first l.m.rows) l.fn.marks + weights l.m l.near l.fn.forest.nodes.items
          ≤ l.fn.steps + l.b + marked_ones (drop l.near.first l.m.rows) l.marks + weights l.m l.near l.forest.nodes.items;
      costs : l.fn.steps + l.b ≤ l.steps;
    }
