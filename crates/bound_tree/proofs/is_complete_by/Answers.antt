use Rattle.bound_tree.proofs.is_complete_by.Goals as goal

pub is_complete_counted-requires-clause-kept : goal.is_complete_counted-requires-clause-kept
is_complete_counted-requires-clause-kept g c = rw c.new.ensures c.requires.kept
