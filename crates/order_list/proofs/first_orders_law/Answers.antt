use Rattle.order_list.proofs.OneList as laws
use Rattle.order_list.proofs.first_orders_law.Goals as goal

pub returns : goal.returns
returns c = laws.first_orders_law
