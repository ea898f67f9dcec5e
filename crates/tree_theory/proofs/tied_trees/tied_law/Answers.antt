use Rattle.tree_theory.proofs.Exact.{tied_law}
use Rattle.tree_theory.proofs.tied_trees.tied_law.Goals as goal

pub returns : goal.returns
returns c = tied_law
