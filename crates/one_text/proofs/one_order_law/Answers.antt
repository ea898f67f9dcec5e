use Rattle.one_text.proofs.Cores.{one_order}
use Rattle.one_text.proofs.one_order_law.Goals as goal

pub returns : goal.returns
returns c = one_order c.canonical_tree_law.ensures.one
