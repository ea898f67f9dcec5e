use Rattle.std.proofs.Common.{ℕ, ◌≤◌}
use Rattle.verdict_judge.specs.NoTests.{PassesPair}
use Rattle.verdict_judge.proofs.cycle.first_bad_pair.Given as goal

abbrev pub invariant-loop-i : goal.invariant-loop-i
invariant-loop-i l = (k : ℕ) → 1 ≤ k → k ≤ l.i → PassesPair l.c l.lines k
