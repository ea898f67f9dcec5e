use Rattle.std.proofs.Common.{ℕ, ◌-◌, ◌<◌, ◌≤◌}
use Rattle.verdict_check.specs.Complete.{InRows, pair_at}
use Rattle.verdict_check.proofs.every_order.go_forward.Given as goal

abbrev pub invariant-loop-x : goal.invariant-loop-x
invariant-loop-x l = InRows l.classes (λ R. (x : ℕ) → l.at ≤ x → x < l.x → (y : ℕ) → l.next ≤ y → y < l.end → R (pair_at l.line l.start (l.end - 1)) (pair_at l.line x y))
