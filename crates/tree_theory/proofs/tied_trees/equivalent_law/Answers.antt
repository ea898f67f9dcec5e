use Rattle.pq_tree.proofs.Frontiers.{same_frontiers}
use Rattle.tree_theory.proofs.Turn.{turned_law}
use Rattle.tree_theory.proofs.tied_trees.equivalent_law.Goals as goal

pub returns : goal.returns
returns c = record { same_frontiers = same_frontiers; tied = turned_law }
