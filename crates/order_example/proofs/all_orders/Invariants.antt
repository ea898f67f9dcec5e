use Rattle.order_example.proofs.all_orders.Given as goal

abbrev pub ghosts-all_orders_by : goal.ghosts-all_orders_by
ghosts-all_orders_by a = record { name = a.blank.name; parts = a.blank.parts }
