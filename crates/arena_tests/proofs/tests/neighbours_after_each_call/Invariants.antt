use Rattle.arena_tests.proofs.tests.neighbours_after_each_call.Given as goal

abbrev pub ghosts-try_part : goal.ghosts-try_part
ghosts-try_part g a = record { name = a.blank.name; parts = a.blank.parts }
