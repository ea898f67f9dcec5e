use Rattle.bound_tree.proofs.is_complete.Given as goal

abbrev pub ghosts-is_complete_by : goal.ghosts-is_complete_by
ghosts-is_complete_by a = record { name = a.blank.name; parts = a.blank.parts }
