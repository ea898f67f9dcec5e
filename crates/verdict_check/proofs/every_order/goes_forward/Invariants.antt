use Rattle.std.proofs.Common.{ℕ, ◌-◌, ◌<◌, ◌≤◌}
use Rattle.verdict_check.specs.Complete.{InRows, pair_at}
use Rattle.verdict_check.proofs.every_order.goes_forward.Given as goal

abbrev pub invariant-loop-y : goal.invariant-loop-y
invariant-loop-y l = InRows l.classes (λ R. (y : ℕ) → l.next ≤ y → y < l.y → R (pair_at l.line l.start (l.end - 1)) (pair_at l.line l.x y))
