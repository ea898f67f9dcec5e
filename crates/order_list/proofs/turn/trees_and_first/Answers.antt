use Rattle.order_list.proofs.turn.trees_and_first.Goals as goal

pub returns-clause-first : goal.returns-clause-first
returns-clause-first c = rw c.deref.ensures.value at c.first_of_all-first.ensures
