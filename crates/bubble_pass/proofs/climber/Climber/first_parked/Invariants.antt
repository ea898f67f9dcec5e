use Rattle.std.proofs.Common.{◌≡◌, ℕ, ◌-◌, ◌<◌, ◌≤◌}
use Rattle.bubble_pass.specs.Climb.{stage, at, parked_one}
use Rattle.bubble_pass.proofs.climber.Climber.first_parked.Given as goal

abbrev pub invariant-loop-i : goal.invariant-loop-i
invariant-loop-i g l = (l.i ≤ l.self.tail) × ((k : ℕ) → k < l.i → parked_one (stage l.self.stages.items (at l.self.queue.items k)) ≡ 0)

abbrev pub decreases-loop-i : goal.decreases-loop-i
decreases-loop-i g l = l.self.tail - l.i
