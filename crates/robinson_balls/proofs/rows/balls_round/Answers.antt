use Rattle.robinson_balls.proofs.rows.balls_round.Goals as goal

pub returns : goal.returns
returns c = rw (c.clear.ensures, c.requires.columns) at c.push_balls.ensures
