use Rattle.std.proofs.Common.{◌≡◌, [], map}
use Rattle.pq_tree.specs.Proper.{outline_of}
use Rattle.order_list.specs.Next.{OneBegins}
use Rattle.order_list.specs.Weights.{walk_weight}
use Rattle.order_list.proofs.search.+find_way.Given as goal

abbrev pub decreases-find_way : goal.decreases-find_way
decreases-find_way l = walk_weight (outline_of l.tree.now)

abbrev pub invariant-loop-place : goal.invariant-loop-place
invariant-loop-place l = record {
  empty : l.way.items ≡ [];
  none : OneBegins (map outline_of l.children) l.place l.column → ⊥;
}
