use Rattle.std.proofs.Common.{ℕ, ◌≤◌}
use Rattle.verdict_judge.specs.Core.{PassesCoreJoin}
use Rattle.verdict_judge.proofs.core_check.first_bad_join.Given as goal

abbrev pub invariant-loop-i : goal.invariant-loop-i
invariant-loop-i l = (k : ℕ) → 1 ≤ k → k ≤ l.i → PassesCoreJoin l.m l.rows l.lines k
