use Rattle.bubble_pass.proofs.climber.Climber.turn.Given as goal

abbrev pub ghost-walk : goal.ghost-walk
ghost-walk g a = g.leaves
