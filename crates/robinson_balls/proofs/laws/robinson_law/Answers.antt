use Rattle.robinson_balls.proofs.BallLaws.{robinson_exactly}
use Rattle.robinson_balls.proofs.laws.robinson_law.Goals as goal

pub returns : goal.returns
returns c = robinson_exactly
