-- A row that is taken is paid.
use Rattle.std.proofs.Common.{◌≡◌, ℕ, ◌+◌, ◌*◌, ◌≤◌, cond, List, [], ◌∷◌, IsFalse, length, refl, sym, ap, subst, arith}
use Rattle.column_order.proofs.Lists.{has_head}
use Rattle.pq_tree.specs.Outline.{Outline, Forest, leaf, p_node, q_node, no_tree, tree_and, leaves, leaves_of}
use Rattle.pq_tree.specs.Proper.{HasArities, IsTree}
use Rattle.pq_tree.specs.Nodes.{meets, IsPertinentRoot, pertinent_root}
use Rattle.pq_tree.specs.Amortised.{nodes_met, nodes_met_of, nodes_met_below_root, weight}
use Rattle.pq_tree.proofs.Forests.{arities_join_right, count_join}
use Rattle.pq_tree.proofs.Nodes.{holds_above, pertinent_root_is, pertinent_root_unique}
use Rattle.pq_tree.proofs.Amortised.{weight_of-join, nodes_met_few}
use Rattle.tree_theory.specs.Reduced.{IsReplaced, replaced_here, replaced_under_p, replaced_under_q, IsReduced, no_column, by_template}
use Rattle.tree_theory.proofs.Hits.{hits, hits_of-and, hits_of-join, hits_few}
use Rattle.tree_theory.proofs.WeightAtRoot.{root_paid}
use Rattle.tree_theory.proofs.Weights.{equivalent_weight}

-- a node of a tree has enough children, and no more leaves in the row
replaced_arities : {x y t v : Outline} → IsReplaced x y t v → HasArities t → HasArities x
replaced_arities replaced_here h = h
replaced_arities (replaced_under_p {t = t} ts us r) h = replaced_arities r (arities_join_right ts (tree_and t us) h.1).0
replaced_arities (replaced_under_q {t = t} ts us r) h = replaced_arities r (arities_join_right ts (tree_and t us) h.1).0

replaced_hits : (row : List ℕ) {x y t v : Outline} → IsReplaced x y t v → hits row x ≤ hits row t
replaced_hits row replaced_here = omega arith
replaced_hits row (replaced_under_p {t = t} ts us r) = omega (arith, hits_of-join row ts (tree_and t us), hits_of-and row t us, replaced_hits row r)
replaced_hits row (replaced_under_q {t = t} ts us r) = omega (arith, hits_of-join row ts (tree_and t us), hits_of-and row t us, replaced_hits row r)

-- the tree changes by as much weight as the node that is replaced
replaced_weight : {x y t v : Outline} → IsReplaced x y t v → weight v + weight x ≡ weight t + weight y
replaced_weight {x = x} {y = y} replaced_here = omega arith
replaced_weight (replaced_under_p {t = t} {u = u} ts us r) =
    omega (arith, count_join ts (tree_and t us), count_join ts (tree_and u us), weight_of-join ts (tree_and t us), weight_of-join ts (tree_and u us), replaced_weight r)
replaced_weight (replaced_under_q {t = t} {u = u} ts us r) =
    omega (arith, weight_of-join ts (tree_and t us), weight_of-join ts (tree_and u us), replaced_weight r)

-- a row without a column meets no node
no_meet : (xs : List ℕ) → IsFalse (meets [] xs)
no_meet [] = refl
no_meet (x ∷ xs) = no_meet xs

mutual
  none_met : (t : Outline) → nodes_met [] t ≡ 0
  none_met (leaf a) = refl
  none_met (p_node ts) = omega (arith, ap (λ b. cond {A = ℕ} b 1 0) (no_meet (leaves_of ts)), none_met_of ts)
  none_met (q_node ts) = omega (arith, ap (λ b. cond {A = ℕ} b 1 0) (no_meet (leaves_of ts)), none_met_of ts)

  none_met_of : (ts : Forest) → nodes_met_of [] ts ≡ 0
  none_met_of no_tree = refl
  none_met_of (tree_and t ts) = omega (arith, none_met t, none_met_of ts)

-- no more nodes at and below the pertinent root than below any that is one
below_root : (row : List ℕ) (t x : Outline) → IsTree t → IsPertinentRoot row t x → nodes_met_below_root row t ≤ nodes_met row x
below_root [] t x h p = omega (arith, none_met (pertinent_root [] t))
below_root (a ∷ row) t x h p =
    let holds : _ = holds_above (a ∷ row) x t p.node p.whole in
    let e : pertinent_root (a ∷ row) t ≡ x = pertinent_root_unique (a ∷ row) a (has_head a row) t (pertinent_root (a ∷ row) t) x h.1 (pertinent_root_is (a ∷ row) t holds) p in
    omega (arith, ap (nodes_met (a ∷ row)) e)

pub reduced_law : (row : List ℕ) (t u : Outline) → IsTree t → IsReduced row t u → nodes_met_below_root row t + weight u ≤ 2 * (length row + 1) + weight t
reduced_law row t u h (no_column e q) =
    let none : nodes_met_below_root row t ≡ 0 = subst (λ r. nodes_met r (pertinent_root r t) ≡ 0) (sym e) (none_met (pertinent_root [] t)) in
    omega (arith, none, equivalent_weight t u q)
reduced_law row t u h (by_template x y v p m r q) =
    omega (
      arith,
      below_root row t x h p,
      root_paid row x y (replaced_arities r h.0) m,
      replaced_weight r,
      replaced_hits row r,
      hits_few row (leaves t) h.1,
      equivalent_weight v u q,
    )

pub met_law : (row : List ℕ) (t : Outline) → IsTree t → nodes_met row t ≤ length row + weight t
met_law row t h = omega (arith, nodes_met_few row t h.0, hits_few row (leaves t) h.1)
