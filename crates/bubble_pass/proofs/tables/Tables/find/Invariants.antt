use Rattle.bubble_pass.proofs.tables.Tables.find.Given as goal

abbrev pub ghost-find : goal.ghost-find
ghost-find g a = g.leaves

abbrev pub ghost-link : goal.ghost-link
ghost-link g a = g.leaves

abbrev pub ghost-descend : goal.ghost-descend
ghost-descend g a = g.leaves

abbrev pub ghost-fill : goal.ghost-fill
ghost-fill g a = g.leaves
