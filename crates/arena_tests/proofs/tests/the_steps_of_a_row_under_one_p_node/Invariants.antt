use Rattle.arena_tests.proofs.tests.the_steps_of_a_row_under_one_p_node.Given as goal

abbrev pub ghosts-try_part : goal.ghosts-try_part
ghosts-try_part g a = record { name = a.blank.name; parts = a.blank.parts }
