use Rattle.std.proofs.Common.{◌≡◌, ◌+◌, ◌<◌, ℕ, length}
use Rattle.proper_interval.specs.Models.{interval_of}
use Rattle.proper_interval.specs.Reaches.{IsIntervalBy}
use Rattle.proper_interval.proofs.formula.intervals.Given as goal

abbrev pub invariant-loop-before : goal.invariant-loop-before
invariant-loop-before l = record {
  count : length l.list ≡ l.before;
  each : (k : ℕ) → k < l.before → IsIntervalBy l.g l.positions.items (k + 1) (interval_of l.list (k + 1));
}
