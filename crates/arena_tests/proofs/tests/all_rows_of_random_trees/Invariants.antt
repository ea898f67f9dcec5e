use Rattle.arena_tests.proofs.tests.all_rows_of_random_trees.Given as goal

abbrev pub ghosts-try_part : goal.ghosts-try_part
ghosts-try_part g a = record { name = a.blank.name; parts = a.blank.parts }
