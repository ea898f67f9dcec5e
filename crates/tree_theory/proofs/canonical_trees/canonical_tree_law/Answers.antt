use Rattle.tree_theory.proofs.One.{one_tree, same_orders}
use Rattle.tree_theory.proofs.canonical_trees.canonical_tree_law.Goals as goal

pub returns : goal.returns
returns c = record { one = one_tree; rows = same_orders }
