use Rattle.std.proofs.Common.{map}
use Rattle.pq_tree.specs.Proper.{outline_of}
use Rattle.order_list.specs.Weights.{walk_weight}
use Rattle.order_list.specs.Next.{IsLeastFrom, OneBegins}
use Rattle.order_list.proofs.search.+next_first.Given as goal

abbrev pub decreases-next_first : goal.decreases-next_first
decreases-next_first l = walk_weight (outline_of l.tree.now)

abbrev pub invariant-loop-child : goal.invariant-loop-child
invariant-loop-child l = IsLeastFrom (OneBegins (map outline_of l.children) l.child-index) l.from l.least
