use Rattle.std.proofs.Common.{◌≡◌, ◌+◌, ◌*◌, ◌-◌, ◌≤◌, drop}
use Rattle.walk_search.specs.MarkedOnes.{marked_ones, sum_to}
use Rattle.walk_search.specs.Weights.{weight, weights}
use Rattle.walk_search.proofs.EndLaws.{IsSearched}
use Rattle.walk_search.proofs.search.search.Given as goal

abbrev pub invariant-loop-turn : goal.invariant-loop-turn
invariant-loop-turn g l =
    record {
      searched : IsSearched l.m l.near l.further l.marks l.forest (l.turn - 1);
      first : l.turn ≡ 0 → l.steps ≤ l.fn.steps;
      turns : l.fn.steps + l.turn ≤ l.steps;
      ticks : l.steps ≤ l.fn.steps + l.turn + (l.m.columns + l.m.columns * sum_to (weight l.m l.near) (l.turn - 1)) + marked_ones (drop l.near.first l.m.rows) l.marks + weights l.m l.near l.forest.nodes.items;
      square : l.steps ≤ l.fn.steps + l.turn + l.turn * l.m.columns + marked_ones (drop l.near.first l.m.rows) l.marks + weights l.m l.near l.forest.nodes.items;
    }
