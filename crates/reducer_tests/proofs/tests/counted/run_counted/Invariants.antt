use Rattle.reducer_tests.proofs.tests.counted.run_counted.Given as goal

abbrev pub ghosts-run_blank : goal.ghosts-run_blank
ghosts-run_blank g a = record { name = a.blank.name; parts = a.blank.parts }
