-- The order of a core without a row.
use Rattle.std.proofs.Common.{◌≡◌, ◌∙◌, sym, ap}
use Rattle.pq_tree.specs.Outline.{leaves}
use Rattle.tree_theory.specs.CanonicalLaws.{CanonicalTreeLaw}
use Rattle.one_text.specs.Laws.{OneOrderLaw}

pub one_order : CanonicalTreeLaw → OneOrderLaw
one_order one_tree m core k o p h g =
    let same : h.tree ≡ g.tree = one_tree m.columns h.tree g.tree (h.proper, h.canonical) (g.proper, g.canonical) (λ q. (λ f. (g.orders q).1 ((h.orders q).0 f), λ f. (h.orders q).1 ((g.orders q).0 f))) in
    h.leaves ∙ ap leaves same ∙ sym g.leaves
