-- The order of a side that shows all valid orders.
use Rattle.std.proofs.Common.{sym, subst}
use Rattle.pq_tree.specs.Outline.{IsFrontier}
use Rattle.pq_tree.proofs.Frontiers.{leaves_are_frontier}
use Rattle.verdict_replies.specs.Verdicts.{ShownOrderLaw}

-- it is a frontier of the tree, and so a valid order
pub shown_order : ShownOrderLaw
shown_order m side shows = (shows.orders side.order).0 (subst (IsFrontier side.tree) (sym shows.leaves) (leaves_are_frontier side.tree))
