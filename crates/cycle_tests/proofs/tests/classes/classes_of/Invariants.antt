use Rattle.cycle_tests.proofs.tests.classes.classes_of.Given as goal

abbrev pub ghosts-classes_counted : goal.ghosts-classes_counted
ghosts-classes_counted a = record { name = a.blank.name; parts = a.blank.parts }
