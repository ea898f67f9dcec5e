use Rattle.arena_tests.proofs.tests.spare_nodes.Given as goal

abbrev pub ghosts-try_part : goal.ghosts-try_part
ghosts-try_part g a = record { name = a.blank.name; parts = a.blank.parts }
