use Rattle.tree_theory.proofs.McConnell.{either, order_exactly, no_order_exactly, first_rows}
use Rattle.tree_theory.proofs.laws.order_law.Goals as goal

pub returns : goal.returns
returns c = record { either = either; order = order_exactly; no_order = no_order_exactly; first_rows = first_rows }
