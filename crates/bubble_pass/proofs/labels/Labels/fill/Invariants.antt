use Rattle.bubble_pass.proofs.labels.Labels.fill.Given as goal

abbrev pub ghost-sweep : goal.ghost-sweep
ghost-sweep g a = g.leaves
