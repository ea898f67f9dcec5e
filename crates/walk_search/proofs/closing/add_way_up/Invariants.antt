use Rattle.std.proofs.Common.{◌≤◌, ◌<◌, length}
use Rattle.walk_search.proofs.ClosingLaws.{IsAddedWay}
use Rattle.walk_search.proofs.closing.add_way_up.Given as goal

abbrev pub invariant-loop-at : goal.invariant-loop-at
invariant-loop-at l =
    record {
      within : (l.forest.root ≤ l.at) × (l.at < length l.forest.nodes.items);
      added : IsAddedWay l.forest l.fn.from l.at l.fn.lines.items l.lines.items;
    }

abbrev pub decreases-loop-at : goal.decreases-loop-at
decreases-loop-at l = l.at
