use Rattle.bubble_pass.proofs.climber.Climber.end.Given as goal

abbrev pub ghost-first_parked : goal.ghost-first_parked
ghost-first_parked g a = g.leaves

abbrev pub ghost-grow : goal.ghost-grow
ghost-grow g a = g.leaves
