use Rattle.std.proofs.Common.{◌≤◌, ◌<◌, length, reverse}
use Rattle.walk_search.specs.Closing.{IsWay}
use Rattle.walk_search.proofs.closing.way_down.Given as goal

abbrev pub invariant-loop-at : goal.invariant-loop-at
invariant-loop-at l =
    record {
      within : (l.forest.root ≤ l.at) × (l.at < length l.forest.nodes.items);
      way : IsWay l.forest l.at l.fn.to (reverse l.lines.items);
    }

abbrev pub decreases-loop-at : goal.decreases-loop-at
decreases-loop-at l = l.at
