use Rattle.std.proofs.Common.{ℕ, ◌-◌, ◌<◌, ◌≤◌}
use Rattle.verdict_check.specs.Complete.{InRows, pair_at}
use Rattle.verdict_check.proofs.every_order.are_alike.Given as goal

abbrev pub invariant-loop-i : goal.invariant-loop-i
invariant-loop-i l = InRows l.classes (λ R. (i : ℕ) → l.from ≤ i → i < l.i → R (pair_at l.line (l.at - 1) i) (pair_at l.line l.at i))
