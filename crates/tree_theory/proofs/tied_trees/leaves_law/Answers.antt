use Rattle.pq_tree.proofs.Frontiers.{leaves_are_frontier}
use Rattle.tree_theory.proofs.tied_trees.leaves_law.Goals as goal

pub returns : goal.returns
returns c = leaves_are_frontier
