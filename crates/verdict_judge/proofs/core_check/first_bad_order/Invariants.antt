use Rattle.std.proofs.Common.{ℕ, ◌<◌, get_or}
use Rattle.verdict_judge.specs.Core.{PassesCoreOrder}
use Rattle.verdict_judge.proofs.core_check.first_bad_order.Given as goal

abbrev pub invariant-loop-i : goal.invariant-loop-i
invariant-loop-i l = (j : ℕ) → j < l.i → PassesCoreOrder l.m l.t.parts (get_or l.t.parts.rows j 0)
