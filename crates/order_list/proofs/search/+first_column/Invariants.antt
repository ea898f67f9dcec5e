use Rattle.pq_tree.specs.Proper.{outline_of}
use Rattle.order_list.specs.Weights.{walk_weight}
use Rattle.order_list.proofs.search.+first_column.Given as goal

abbrev pub decreases-first_column : goal.decreases-first_column
decreases-first_column l = walk_weight (outline_of l.tree.now)
