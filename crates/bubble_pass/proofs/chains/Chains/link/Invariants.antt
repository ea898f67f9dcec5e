use Rattle.std.proofs.Common.{◌-◌, ◌≤◌}
use Rattle.bubble_pass.specs.Chains.{Linked}
use Rattle.bubble_pass.proofs.chains.Chains.link.Given as goal

abbrev pub invariant-loop-i : goal.invariant-loop-i
invariant-loop-i g l = Linked l.climber l.self l.i × (l.i ≤ l.climber.tail)

abbrev pub decreases-loop-i : goal.decreases-loop-i
decreases-loop-i g l = l.climber.tail - l.i
