-- What the templates give may be turned.
use Rattle.std.proofs.Common.{ℕ, List, sym, subst, inl, inr}
use Rattle.pq_tree.specs.Outline.{Outline, Forest, leaf, p_node, q_node, tree_and}
use Rattle.pq_tree.specs.Forests.{trees, join}
use Rattle.pq_tree.specs.Nodes.{IsPertinentRoot}
use Rattle.pq_tree.specs.Equivalent.{IsEquivalent, AreEquivalent}
use Rattle.pq_tree.proofs.Forests.{forest-trees}
use Rattle.pq_tree.proofs.Turnings.{equivalent_trans, are_equivalent_trans, p_child_turned, q_child_turned}
use Rattle.tree_theory.specs.Templates.{Label, empty_label, full_label, partial_label}
use Rattle.tree_theory.specs.Reduced.{IsTurned, IsLabel, IsRootMade, IsReplaced, replaced_here, replaced_under_p, replaced_under_q, IsReduced, no_column, by_template}

trees_trans : (ts us vs : Forest) → AreEquivalent ts (trees us) → AreEquivalent us (trees vs) → AreEquivalent ts (trees vs)
trees_trans ts us vs h k = are_equivalent_trans ts (trees us) (trees vs) h (subst (λ x. AreEquivalent x (trees vs)) (sym (forest-trees us)) k)

turned_trans : (x y z : Label) → IsTurned x y → IsTurned y z → IsTurned x z
turned_trans empty_label y z h k = subst (λ l. IsTurned l z) h k
turned_trans full_label y z h k = subst (λ l. IsTurned l z) h k
turned_trans (partial_label p) y z h k =
    let l : IsTurned (partial_label h.0) z = subst (λ l. IsTurned l z) h.3 k in
    (l.0, trees_trans p.e h.0.e l.0.e h.1 l.1, trees_trans p.f h.0.f l.0.f h.2 l.2, l.3)

leaf_turned : (row : List ℕ) (a : ℕ) (x y : Label) → IsLabel row (leaf a) x → IsTurned x y → IsLabel row (leaf a) y
leaf_turned row a x y h k =
    elim h [
      | inl i ↦ inl (i.0, subst (λ l. IsTurned l y) i.1 k)
      | inr i ↦ inr (i.0, subst (λ l. IsTurned l y) i.1 k)
    ]

pub label_turned : (row : List ℕ) (t : Outline) (x y : Label) → IsLabel row t x → IsTurned x y → IsLabel row t y
label_turned row (leaf a) x y h k = leaf_turned row a x y h k
label_turned row (p_node ts) x y h k = (h.0, h.1, h.2, h.3, turned_trans h.1 x y h.4 k)
label_turned row (q_node ts) x y h k = (h.0, h.1, h.2, h.3, turned_trans h.1 x y h.4 k)

pub reduced_turned : (row : List ℕ) (t u v : Outline) → IsReduced row t u → IsEquivalent u v → IsReduced row t v
reduced_turned row t u v (no_column e h) k = no_column e (equivalent_trans t u v h k)
reduced_turned row t u v (by_template x y w r m p h) k = by_template x y w r m p (equivalent_trans w u v h k)

-- with y in the place where z stands, turned
place_turned : {x z t v : Outline} (y : Outline) → IsEquivalent y z → IsReplaced x z t v → (w : Outline) × IsReplaced x y t w × IsEquivalent w v
place_turned y h replaced_here = (y, replaced_here, h)
place_turned y h (replaced_under_p {u = u} ts us r) =
    let k = place_turned y h r in (p_node (join ts (tree_and k.0 us)), replaced_under_p ts us k.1, p_child_turned ts us k.0 u k.2)
place_turned y h (replaced_under_q {u = u} ts us r) =
    let k = place_turned y h r in (q_node (join ts (tree_and k.0 us)), replaced_under_q ts us k.1, q_child_turned ts us k.0 u k.2)

pub root_turned : (row : List ℕ) (t x y z v : Outline) → IsPertinentRoot row t x → IsRootMade row x y → IsEquivalent y z → IsReplaced x z t v → IsReduced row t v
root_turned row t x y z v r m h p = let k = place_turned y h p in by_template x y k.0 r m k.1 k.2
