use Rattle.std.proofs.Common.{◌∙◌, ap, sym, map}
use Rattle.pq_tree.specs.Outline.{p_node, q_node}
use Rattle.pq_tree.specs.Proper.{outline_of, forest}
use Rattle.pq_tree.proofs.Shown.{outline_of-Leaf, outline_of-P, outline_of-Q}
use Rattle.pq_tree.proofs.Tree.view.Goals as goal

pub returns-in-Leaf-clause-outline : goal.returns-in-Leaf-clause-outline
returns-in-Leaf-clause-outline c = ap outline_of c.in-Leaf.is ∙ outline_of-Leaf c.in-Leaf.column

pub returns-in-P-clause-outline : goal.returns-in-P-clause-outline
returns-in-P-clause-outline c =
    ap outline_of c.in-P.is ∙ outline_of-P c.in-P.children ∙ ap (λ ts. p_node (forest (map outline_of ts))) (sym c.deref.ensures.value)

pub returns-in-Q-clause-outline : goal.returns-in-Q-clause-outline
returns-in-Q-clause-outline c =
    ap outline_of c.in-Q.is ∙ outline_of-Q c.in-Q.children ∙ ap (λ ts. q_node (forest (map outline_of ts))) (sym c.deref-in-Q.ensures.value)
