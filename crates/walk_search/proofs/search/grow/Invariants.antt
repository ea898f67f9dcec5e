use Rattle.std.proofs.Common.{◌≡◌, ◌+◌, ◌≤◌, ◌<◌, ◌*◌, ◌-◌, drop, take, length}
use Rattle.walk_search.specs.MarkedOnes.{marked_ones}
use Rattle.walk_search.specs.Weights.{weights, IsWeighty}
use Rattle.walk_search.proofs.TakenLaws.{IsGrowing}
use Rattle.walk_search.proofs.search.grow.Given as goal

abbrev pub invariant-loop-head : goal.invariant-loop-head
invariant-loop-head g l =
    record {
      growing : IsGrowing l.m l.near l.fn.marks l.marks l.fn.forest l.forest l.head;
      weighty : IsWeighty l.m l.near l.forest.nodes.items l.forest.root;
      tree : l.forest.root < length l.forest.nodes.items;
      same : l.forest.root ≡ l.fn.forest.root;
      costs : l.fn.steps + l.head ≤ l.steps + l.fn.forest.root;
      ticks : l.steps + marked_ones (drop l.near.first l.m.rows) l.fn.marks + weights l.m l.near (take l.fn.forest.root l.fn.forest.nodes.items)
          ≤ l.fn.steps + marked_ones (drop l.near.first l.m.rows) l.marks + weights l.m l.near (take l.head l.forest.nodes.items);
    }

abbrev pub decreases-loop-head : goal.decreases-loop-head
decreases-loop-head g l = l.m.columns * l.m.columns - l.head
