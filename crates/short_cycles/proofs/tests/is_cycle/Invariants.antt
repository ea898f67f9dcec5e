use Rattle.short_cycles.proofs.tests.is_cycle.Given as goal

abbrev pub ghosts-checked_counted : goal.ghosts-checked_counted
ghosts-checked_counted a = record { name = a.blank.name; parts = a.blank.parts }
