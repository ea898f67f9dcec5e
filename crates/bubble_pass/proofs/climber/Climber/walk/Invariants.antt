use Rattle.bubble_pass.specs.Moves.{Walking}
use Rattle.bubble_pass.proofs.climber.Climber.walk.Given as goal

abbrev pub invariant-loop-x : goal.invariant-loop-x
invariant-loop-x g l = Walking l.arena g.leaves l.fn.self l.self l.m l.fn.from l.before l.fn.to l.next l.fn.steps l.steps

abbrev pub decreases-loop-x : goal.decreases-loop-x
decreases-loop-x g l = l.self.parked
