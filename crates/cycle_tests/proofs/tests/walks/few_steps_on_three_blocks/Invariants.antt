use Rattle.cycle_tests.proofs.tests.walks.few_steps_on_three_blocks.Given as goal

abbrev pub ghosts-walk_within_480_steps : goal.ghosts-walk_within_480_steps
ghosts-walk_within_480_steps g a = record { name = a.blank.name; parts = a.blank.parts }
