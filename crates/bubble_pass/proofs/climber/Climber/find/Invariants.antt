use Rattle.bubble_pass.proofs.climber.Climber.find.Given as goal

abbrev pub ghost-climb : goal.ghost-climb
ghost-climb g a = g.leaves

abbrev pub ghost-end : goal.ghost-end
ghost-end g a = g.leaves
