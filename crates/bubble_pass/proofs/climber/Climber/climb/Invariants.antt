use Rattle.std.proofs.Common.{◌-◌, length}
use Rattle.bubble_pass.specs.Ends.{Climbed}
use Rattle.bubble_pass.proofs.climber.Climber.climb.Given as goal

abbrev pub invariant-loop-self : goal.invariant-loop-self
invariant-loop-self g l = Climbed l.arena g.leaves l.self l.fn.steps l.steps

abbrev pub decreases-loop-self : goal.decreases-loop-self
decreases-loop-self g l = length l.self.stages.items - l.self.head

abbrev pub ghost-turn : goal.ghost-turn
ghost-turn g a = g.leaves
