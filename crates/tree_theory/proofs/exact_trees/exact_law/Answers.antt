use Rattle.tree_theory.proofs.Chain.{exact}
use Rattle.tree_theory.proofs.exact_trees.exact_law.Goals as goal

pub returns : goal.returns
returns c =
    exact c.universal_law.ensures c.reduce_law.ensures.kept c.reduce_law.ensures.exists c.tied_law.ensures c.leaves_law.ensures c.equivalent_law.ensures.tied c.canonical_form_law.ensures.shape
