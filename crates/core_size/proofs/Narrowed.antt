-- A reduced tree has less slack, or is the tree with its nodes turned.
use Rattle.std.proofs.Common.{◌≡◌, ℕ, ◌+◌, List, inl, inr, arith}
use Rattle.pq_tree.specs.Outline.{Outline, tree_and}
use Rattle.pq_tree.specs.Proper.{HasArities, IsTree}
use Rattle.pq_tree.specs.Equivalent.{IsEquivalent}
use Rattle.pq_tree.proofs.Forests.{arities_join_right, count_join}
use Rattle.pq_tree.proofs.Turnings.{equivalent_trans, p_child_turned, q_child_turned}
use Rattle.tree_theory.specs.Reduced.{IsReplaced, replaced_here, replaced_under_p, replaced_under_q, IsReduced, no_column, by_template}
use Rattle.tree_theory.specs.Laws.{FullChildrenOfP2Law, FullChildrenOfP4Law}
use Rattle.tree_theory.proofs.Measures.{measure-join, equivalent_measure}
use Rattle.core_size.specs.Slack.{slack}
use Rattle.core_size.proofs.Slacks.{slacks}
use Rattle.core_size.proofs.Roots.{Narrows, root_narrows}

replaced_arities : {x y t v : Outline} → IsReplaced x y t v → HasArities t → HasArities x
replaced_arities replaced_here h = h
replaced_arities (replaced_under_p {t = t} ts us r) h = replaced_arities r (arities_join_right ts (tree_and t us) h.1).0
replaced_arities (replaced_under_q {t = t} ts us r) h = replaced_arities r (arities_join_right ts (tree_and t us) h.1).0

-- the tree changes by as much slack as the node that is replaced
replaced_slack : {x y t v : Outline} → IsReplaced x y t v → slack v + slack x ≡ slack t + slack y
replaced_slack {x = x} {y = y} replaced_here = omega arith
replaced_slack (replaced_under_p {t = t} {u = u} ts us r) =
    omega (arith, count_join ts (tree_and t us), count_join ts (tree_and u us), measure-join slacks ts (tree_and t us), measure-join slacks ts (tree_and u us), replaced_slack r)
replaced_slack (replaced_under_q {t = t} {u = u} ts us r) = omega (arith, measure-join slacks ts (tree_and t us), measure-join slacks ts (tree_and u us), replaced_slack r)

-- where the node is turned, the tree is turned
replaced_turned : {x y t v : Outline} → IsReplaced x y t v → IsEquivalent x y → IsEquivalent t v
replaced_turned replaced_here e = e
replaced_turned (replaced_under_p {t = t} {u = u} ts us r) e = p_child_turned ts us t u (replaced_turned r e)
replaced_turned (replaced_under_q {t = t} {u = u} ts us r) e = q_child_turned ts us t u (replaced_turned r e)

pub reduced_narrows : FullChildrenOfP2Law → FullChildrenOfP4Law → (row : List ℕ) (t u : Outline) → IsTree t → IsReduced row t u → Narrows t u
reduced_narrows two four row t u tree (no_column e q) = inr q
reduced_narrows two four row t u tree (by_template x y v p m r q) = elim (root_narrows row t x y two four tree p (replaced_arities r tree.0) m) [
  | inl less ↦ inl (omega (arith, less, replaced_slack r, equivalent_measure slacks v u q))
  | inr same ↦ inr (equivalent_trans t v u (replaced_turned r same) q)
]
