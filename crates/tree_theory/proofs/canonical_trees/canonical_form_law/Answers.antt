use Rattle.tree_theory.proofs.Same.{one_shape}
use Rattle.tree_theory.proofs.One.{one_form}
use Rattle.tree_theory.proofs.canonical_trees.canonical_form_law.Goals as goal

pub returns : goal.returns
returns c = record { shape = one_shape; form = one_form }
