use Rattle.ground_tests.proofs.matrix_tests.counted_reads_give_what_the_row_has.Given as goal

abbrev pub ghosts-reads_counted : goal.ghosts-reads_counted
ghosts-reads_counted g a = record { name = a.blank.name; parts = a.blank.parts }
