use Rattle.bubble_pass.specs.Ends.{Growing}
use Rattle.bubble_pass.proofs.climber.Climber.grow.Given as goal

abbrev pub invariant-loop-x : goal.invariant-loop-x
invariant-loop-x g l = Growing l.arena g.leaves l.fn.self l.self l.fn.from l.before l.fn.to l.next l.fn.steps l.steps

abbrev pub decreases-loop-x : goal.decreases-loop-x
decreases-loop-x g l = l.self.parked
