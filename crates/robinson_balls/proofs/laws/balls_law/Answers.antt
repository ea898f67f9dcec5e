use Rattle.robinson_balls.proofs.Rounds.{balls_of_rounds}
use Rattle.robinson_balls.proofs.RowLemmas.{few_of_all}
use Rattle.robinson_balls.proofs.laws.balls_law.Goals as goal

pub returns : goal.returns
returns c = record { rows = balls_of_rounds; few = few_of_all }
