use Rattle.tree_theory.proofs.Start.{universal_law}
use Rattle.tree_theory.proofs.tied_trees.universal_law.Goals as goal

pub returns : goal.returns
returns c = universal_law
