use Rattle.std.proofs.Common.{◌≡◌, ℕ, ◌+◌, ◌<◌}
use Rattle.verdict_judge.specs.Gaps.{LiesWithin, gap_at}
use Rattle.verdict_judge.proofs.gaps.all_within.Given as goal

abbrev pub invariant-loop-gap : goal.invariant-loop-gap
invariant-loop-gap g l = record {
  within : (i : ℕ) → i < l.gap-index → LiesWithin l.outer (gap_at l.gaps i);
  ticks : l.steps ≡ l.fn.steps + l.gap-index;
}
