use Rattle.std.proofs.Common.{◌≡◌, ℕ, ◌+◌, ◌<◌, ◌≤◌, List, length, take, sum_by, slice_index_or}
use Rattle.open_gaps.specs.Gaps.{AreGaps}
use Rattle.bound_tree.specs.declared.stretch.Stretch.{Stretch}
use Rattle.bound_tree.specs.Sides.{IsFreeFrom, IsPassed, GoesDown, SkipsOnly}
use Rattle.bound_tree.proofs.Looks.{looks_before}
use Rattle.bound_tree.proofs.free.are_free_from.Given as goal

abbrev pub invariant-loop-stretch : goal.invariant-loop-stretch
invariant-loop-stretch g l = record {
  long : length l.before ≡ length l.gaps.order;
  down : GoesDown l.before;
  free : (rows : List (List ℕ)) → AreGaps rows l.gaps.order l.gaps.gaps → (k : ℕ) (d : Stretch) → k < l.stretch-index →
      IsFreeFrom l.side rows l.gaps.order (slice_index_or l.stretches k d);
  skips : (rows : List (List ℕ)) → AreGaps rows l.gaps.order l.gaps.gaps → (k : ℕ) (d : Stretch) → l.stretch-index ≤ k → k < length l.stretches →
      SkipsOnly (IsPassed l.side rows l.gaps.order (slice_index_or l.stretches k d).at) l.before;
  ticks : l.steps ≤ l.fn.steps + sum_by looks_before (take l.stretch-index l.stretches);
}
