-- Two proper trees with the same frontiers are equivalent.
use Rattle.std.proofs.Common.{◌≡◌, ◌∙◌, ℕ, ◌≤◌, List, [], ◌∷◌, length, refl, sym, ap, subst, arith}
use Rattle.std.specs.List.{concat}
use Rattle.column_order.specs.Orders.{place}
use Rattle.column_order.proofs.Counts.{order_once}
use Rattle.pq_tree.specs.Outline.{Outline, Forest, leaf, p_node, q_node, no_tree, tree_and, leaves, leaves_of, IsFrontier}
use Rattle.pq_tree.specs.Forests.{count}
use Rattle.pq_tree.specs.Proper.{HasArities, HaveArities, IsProper}
use Rattle.pq_tree.specs.Nodes.{children}
use Rattle.pq_tree.specs.Equivalent.{IsEquivalent}
use Rattle.pq_tree.proofs.Frontiers.{same_frontiers}
use Rattle.pq_tree.proofs.Equivalent.{equivalent_proper}
use Rattle.pq_tree.proofs.Turnings.{equivalent_sym}
use Rattle.tree_theory.proofs.Bound.{AreBound}
use Rattle.tree_theory.proofs.Alike.{Alike}
use Rattle.tree_theory.specs.CanonicalLaws.{HaveSameFrontiers}
use Rattle.tree_theory.proofs.Shown.{Shown, shown}
use Rattle.tree_theory.proofs.Mirror.{leaves_are_frontier, in_turn}
use Rattle.tree_theory.proofs.Ends.{IsOnce, once_left, once_right, bound_at}
use Rattle.tree_theory.proofs.Cross.{crossed}
use Rattle.tree_theory.proofs.Aligned.{IsAligned, aligned, aligned_sym}
use Rattle.tree_theory.proofs.Mixed.{mixed}
use Rattle.tree_theory.proofs.Child.{IsSub, AreSub, child_frontiers}
use Rattle.pq_tree.proofs.Forests.{leaves_count}

one_leaf : (a : ℕ) (ts : Forest) → 2 ≤ count ts → HaveArities ts → a ∷ [] ≡ leaves_of ts → ⊥
one_leaf a ts n h e = omega (arith, n, leaves_count ts h, ap length e)

children_arities : (t : Outline) → HasArities t → HaveArities (children t)
children_arities (leaf a) h = tt
children_arities (p_node ts) h = h.1
children_arities (q_node ts) h = h.1

children_leaves : (t : Outline) → 1 ≤ count (children t) → leaves_of (children t) ≡ leaves t
children_leaves (leaf a) n = absurd (omega arith)
children_leaves (p_node ts) n = refl
children_leaves (q_node ts) n = refl

children_bound : (t : Outline) → IsOnce (leaves t) → (f : List ℕ) → IsFrontier t f → AreBound (Alike (place f)) (children t)
children_bound (leaf a) once f h = tt
children_bound (p_node ts) once f h = (bound_at (p_node ts) once f h).1
children_bound (q_node ts) once f h = (bound_at (q_node ts) once f h).1

children_sub : (t u : Outline) → 1 ≤ count (children t) → IsAligned (children t) (children u) → IsOnce (leaves t) → IsOnce (leaves u) → IsSub t u → AreSub (children t) (children u)
children_sub t u n al ot ou sub =
    child_frontiers [] (children t) (children u) al (subst IsOnce (sym (children_leaves t n)) ot)
    (λ fs h. children_bound u ou (concat fs) (sub (concat fs) (in_turn t fs n h)))

-- two nodes with the same leaves and the same frontiers
record Matched (t u : Outline) : Type 0 where
  one_by_one : IsAligned (children t) (children u)
  forth : AreSub (children t) (children u)
  back : AreSub (children u) (children t)

matched : (t u : Outline) → 1 ≤ count (children t) → 1 ≤ count (children u) → HasArities t → HasArities u → IsOnce (leaves t) → IsOnce (leaves u) → leaves t ≡ leaves u →
    HaveSameFrontiers t u → Matched t u
matched t u n m ht hu ot ou e same =
    let turned : HaveSameFrontiers u t = λ f. ((same f).1, (same f).0) in
    let al : IsAligned (children t) (children u) =
    aligned (children t) (children u) (children_arities t ht) (children_arities u hu) (children_leaves t n ∙ e ∙ sym (children_leaves u m))
    (crossed t u ht hu ot ou same) (crossed u t hu ht ou ot turned) in
    record {
      one_by_one = al;
      forth = children_sub t u n al ot ou (λ f. (same f).0);
      back = children_sub u t m (aligned_sym (children t) (children u) al) ou ot (λ f. (same f).1);
    }

mutual
  -- the same leaves and the same frontiers: the same tree
  pub same_tree : (t u : Outline) → HasArities t → HasArities u → IsOnce (leaves t) → IsOnce (leaves u) → leaves t ≡ leaves u → HaveSameFrontiers t u → t ≡ u
  same_tree (leaf a) (leaf b) ht hu ot ou e same = let h : a ≡ b = cc in ap leaf h
  same_tree (leaf a) (p_node us) ht hu ot ou e same = absurd (one_leaf a us hu.0 hu.1 e)
  same_tree (leaf a) (q_node us) ht hu ot ou e same = absurd (one_leaf a us (omega (arith, hu.0)) hu.1 e)
  same_tree (p_node ts) (leaf b) ht hu ot ou e same = absurd (one_leaf b ts ht.0 ht.1 (sym e))
  same_tree (q_node ts) (leaf b) ht hu ot ou e same = absurd (one_leaf b ts (omega (arith, ht.0)) ht.1 (sym e))
  same_tree (p_node ts) (p_node us) ht hu ot ou e same =
      let m : Matched (p_node ts) (p_node us) = matched (p_node ts) (p_node us) (omega (arith, ht.0)) (omega (arith, hu.0)) ht hu ot ou e same in
      ap p_node (same_trees ts us ht.1 hu.1 ot ou m.one_by_one m.forth m.back)
  same_tree (p_node ts) (q_node us) ht hu ot ou e same =
      let m : Matched (p_node ts) (q_node us) = matched (p_node ts) (q_node us) (omega (arith, ht.0)) (omega (arith, hu.0)) ht hu ot ou e same in
      absurd (mixed ts us hu.0 hu.1 ot ou m.one_by_one (λ f. (same f).0))
  same_tree (q_node ts) (p_node us) ht hu ot ou e same =
      let m : Matched (q_node ts) (p_node us) = matched (q_node ts) (p_node us) (omega (arith, ht.0)) (omega (arith, hu.0)) ht hu ot ou e same in
      absurd (mixed us ts ht.0 ht.1 ou ot (aligned_sym ts us m.one_by_one) (λ f. (same f).1))
  same_tree (q_node ts) (q_node us) ht hu ot ou e same =
      let m : Matched (q_node ts) (q_node us) = matched (q_node ts) (q_node us) (omega (arith, ht.0)) (omega (arith, hu.0)) ht hu ot ou e same in
      ap q_node (same_trees ts us ht.1 hu.1 ot ou m.one_by_one m.forth m.back)

  same_trees : (ts us : Forest) → HaveArities ts → HaveArities us → IsOnce (leaves_of ts) → IsOnce (leaves_of us) → IsAligned ts us → AreSub ts us → AreSub us ts → ts ≡ us
  same_trees no_tree no_tree ht hu ot ou al p q = refl
  same_trees no_tree (tree_and u us) ht hu ot ou al p q = absurd al
  same_trees (tree_and t ts) no_tree ht hu ot ou al p q = absurd al
  same_trees (tree_and t ts) (tree_and u us) ht hu ot ou al p q =
      let first : t ≡ u =
      same_tree t u ht.0 hu.0 (once_left (leaves t) (leaves_of ts) ot) (once_left (leaves u) (leaves_of us) ou) al.0 (λ f. (p.0 f, q.0 f)) in
      let others : ts ≡ us =
      same_trees ts us ht.1 hu.1 (once_right (leaves t) (leaves_of ts) ot) (once_right (leaves u) (leaves_of us) ou) al.1 p.1 q.1 in
      ap (λ x. tree_and x ts) first ∙ ap (tree_and u) others

-- two proper trees with the same frontiers are equivalent
pub one_shape : (c : ℕ) (t u : Outline) → IsProper c t → IsProper c u → HaveSameFrontiers t u → IsEquivalent t u
one_shape c t u ht hu same =
    let s : Shown u (leaves t) = shown u (leaves t) ((same (leaves t)).0 (leaves_are_frontier t)) in
    let v : Outline = s.tree in
    let hv : IsProper c v = equivalent_proper c u v s.turned hu in
    let sv : HaveSameFrontiers t v =
    λ f. ((λ k. (same_frontiers u v s.turned f).0 ((same f).0 k)), (λ k. (same f).1 ((same_frontiers u v s.turned f).1 k))) in
    let is : t ≡ v = same_tree t v ht.0 hv.0 (order_once c (leaves t) ht.1) (order_once c (leaves v) hv.1) (sym s.leaves_are) sv in
    subst (λ x. IsEquivalent x u) (sym is) (equivalent_sym u v s.turned)
