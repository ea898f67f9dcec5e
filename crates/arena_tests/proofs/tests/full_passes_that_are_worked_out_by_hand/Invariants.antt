use Rattle.arena_tests.proofs.tests.full_passes_that_are_worked_out_by_hand.Given as goal

abbrev pub ghosts-try_part : goal.ghosts-try_part
ghosts-try_part g a = record { name = a.blank.name; parts = a.blank.parts }
