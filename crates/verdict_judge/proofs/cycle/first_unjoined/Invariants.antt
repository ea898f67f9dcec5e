use Rattle.std.proofs.Common.{ℕ, ◌+◌, ◌*◌, ◌≤◌}
use Rattle.verdict_judge.specs.NoTests.{PassesJoin}
use Rattle.verdict_judge.proofs.cycle.first_unjoined.Given as goal

abbrev pub invariant-loop-i : goal.invariant-loop-i
invariant-loop-i g l = record {
  joined : (k : ℕ) → 1 ≤ k → k ≤ l.i → PassesJoin l.m l.lines k;
  ticks : l.steps ≤ l.fn.steps + 3 * l.i;
}
