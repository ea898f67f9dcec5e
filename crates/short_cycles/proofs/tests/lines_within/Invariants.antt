use Rattle.short_cycles.proofs.tests.lines_within.Given as goal

abbrev pub ghosts-lines_counted : goal.ghosts-lines_counted
ghosts-lines_counted a = record { name = a.blank.name; parts = a.blank.parts }
