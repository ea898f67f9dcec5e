use Rattle.core_tests.proofs.tests.a_core_by_a_solver_that_tells_nothing.Given as goal

abbrev pub ghosts-counted : goal.ghosts-counted
ghosts-counted g a = record { name = a.blank.name; parts = a.blank.parts }
