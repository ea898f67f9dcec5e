use Rattle.std.proofs.Common.{◌≡◌, ℕ, ◌+◌, ◌*◌, ◌<◌, ◌≤◌, List, length}
use Rattle.open_gaps.specs.Gaps.{AreGaps}
use Rattle.bound_tree.specs.Sides.{IsPassed, GoesDown, SkipsOnly}
use Rattle.bound_tree.proofs.skips.nearest.Given as goal

abbrev pub invariant-loop-side : goal.invariant-loop-side
invariant-loop-side g l = record {
  long : length l.before ≡ length l.gaps.order;
  down : GoesDown l.before;
  range : l.p ≤ l.from;
  passed : (rows : List (List ℕ)) → AreGaps rows l.gaps.order l.gaps.gaps → SkipsOnly (IsPassed l.side rows l.gaps.order l.at) l.fn.before →
      (p : ℕ) → l.p < p → p ≤ l.from → IsPassed l.side rows l.gaps.order l.at p;
  skips : (rows : List (List ℕ)) → AreGaps rows l.gaps.order l.gaps.gaps → SkipsOnly (IsPassed l.side rows l.gaps.order l.at) l.fn.before →
      SkipsOnly (IsPassed l.side rows l.gaps.order l.at) l.before;
  ticks : l.steps + 2 * l.p ≤ l.fn.steps + 2 * l.from;
}

abbrev pub decreases-loop-side : goal.decreases-loop-side
decreases-loop-side g l = l.p
