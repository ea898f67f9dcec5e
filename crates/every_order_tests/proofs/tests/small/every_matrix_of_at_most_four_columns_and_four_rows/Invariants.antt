use Rattle.every_order_tests.proofs.tests.small.every_matrix_of_at_most_four_columns_and_four_rows.Given as goal

abbrev pub ghosts-agree_on_all : goal.ghosts-agree_on_all
ghosts-agree_on_all g a = record { name = a.blank.name; parts = a.blank.parts }
