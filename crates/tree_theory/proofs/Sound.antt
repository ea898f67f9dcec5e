-- A label that the templates give is right for the tree, and so is what they make of the pertinent root.
use Rattle.std.proofs.Common.{◌≤◌, ℕ, false, List, [], ◌∷◌, ◌++◌, IsTrue, IsFalse, refl, sym, subst, inl, inr, arith}
use Rattle.std.proofs.lemmas.Bool.{both_ways}
use Rattle.column_order.specs.Orders.{has, occurs}
use Rattle.column_order.proofs.Lists.{has_cases, occurs-append}
use Rattle.pq_tree.specs.Outline.{Outline, Forest, leaf, p_node, q_node, no_tree, tree_and, leaves, leaves_of}
use Rattle.pq_tree.specs.Proper.{HasArities, HaveArities, IsTree}
use Rattle.pq_tree.specs.Forests.{forest, trees, join}
use Rattle.pq_tree.specs.Nodes.{NoneHolds, IsNode, IsNodeOf}
use Rattle.pq_tree.proofs.Forests.{forest-trees}
use Rattle.tree_theory.specs.Templates.{Partial, Label, l1}
use Rattle.tree_theory.specs.Reduced.{IsTurned, IsLabel, AreLabels, IsRootMade, IsReplaced, replaced_here, replaced_under_p, replaced_under_q}
use Rattle.tree_theory.proofs.BelowRoot.{Treated}
use Rattle.tree_theory.proofs.AtRoot.{Rooted}
use Rattle.tree_theory.proofs.Context.{the_within, rooted_p, rooted_q}
use Rattle.tree_theory.proofs.NodeTemplates.{p_right, q_right}
use Rattle.tree_theory.proofs.Meaning.{IsLabelled, labelled_empty, labelled_full, labelled_partial, AreLabelled, none_labelled, more_labelled, AllMiss, IsRoot}
use Rattle.tree_theory.proofs.Preserved.{full_rooted, l1_kept}
use Rattle.tree_theory.proofs.RootTemplates.{not_all, root_p_right, root_q_right}
use Rattle.tree_theory.proofs.Turned.{treated_turned}
use Rattle.tree_theory.specs.Outcomes.{IsLowest}
use Rattle.pq_tree.proofs.Nodes.{holds_each}

-- the trees of a partial turned
turned_labelled : (row : List ℕ) (t : Outline) (y x : Label) → IsLabelled row t y → IsTurned y x → IsLabelled row t x
turned_labelled row t y x (labelled_empty e) h = subst (IsLabelled row t) (sym h) (labelled_empty e)
turned_labelled row t y x (labelled_full f) h = subst (IsLabelled row t) (sym h) (labelled_full f)
turned_labelled row t y x (labelled_partial p r) h =
    let k : Partial = h.0 in
    let w : Treated row t (forest (trees k.e)) (forest (trees k.f)) = treated_turned row t p.e p.f (trees k.e) (trees k.f) r h.1 h.2 in
    subst (IsLabelled row t) (sym h.3)
    (labelled_partial k (subst (λ fs. Treated row t k.e fs) (forest-trees k.f) (subst (λ es. Treated row t es (forest (trees k.f))) (forest-trees k.e) w)))

leaf_labelled : (row : List ℕ) (a : ℕ) (x : Label) → IsLabel row (leaf a) x → IsLabelled row (leaf a) x
leaf_labelled row a x h =
    elim h [
      | inl k ↦ subst (IsLabelled row (leaf a)) (sym k.1) (labelled_full (l1_kept row a k.0))
      | inr k ↦
          subst (IsLabelled row (leaf a)) (sym k.1)
          (labelled_empty (λ d i. elim (has_cases a d [] i) [ inl w ↦ subst (λ y. IsFalse (has row y)) w k.0 | inr w ↦ absurd (both_ways false refl w) ]))
    ]

mutual
  pub label_sound : (row : List ℕ) (t : Outline) (x : Label) → HasArities t → ((a : ℕ) → occurs (leaves t) a ≤ 1) → IsLabel row t x → IsLabelled row t x
  label_sound row (leaf a) x c once h = leaf_labelled row a x h
  label_sound row (p_node ts) x c once h =
      turned_labelled row (p_node ts) h.1 x (p_right row ts h.0 h.1 (labels_sound row ts h.0 c.1 once h.2) c.1 once h.3) h.4
  label_sound row (q_node ts) x c once h =
      turned_labelled row (q_node ts) h.1 x (q_right row ts h.0 h.1 (labels_sound row ts h.0 c.1 once h.2) c.1 (omega (arith, c.0)) h.3) h.4

  pub labels_sound : (row : List ℕ) (ts : Forest) (ps : List Label) → HaveArities ts → ((a : ℕ) → occurs (leaves_of ts) a ≤ 1) → AreLabels row ts ps → AreLabelled row ts ps
  labels_sound row no_tree [] c once h = none_labelled
  labels_sound row no_tree (x ∷ ps) c once h = absurd h
  labels_sound row (tree_and t ts) [] c once h = absurd h
  labels_sound row (tree_and t ts) (x ∷ ps) c once h =
      let both : (a : ℕ) → occurs (leaves t ++ leaves_of ts) a ≤ 1 = once in
      more_labelled (label_sound row t x c.0 (λ a. omega (arith, both a, occurs-append (leaves t) (leaves_of ts) a)) h.0)
      (labels_sound row ts ps c.1 (λ a. omega (arith, both a, occurs-append (leaves t) (leaves_of ts) a)) h.1)

none_miss : (row : List ℕ) (ts : Forest) → NoneHolds row ts → AllMiss row ts
none_miss row no_tree h = tt
none_miss row (tree_and t ts) h = (not_all (leaves t) row h.0, none_miss row ts h.1)

pub lowest_within : (row : List ℕ) (x : Outline) → IsLowest row x → (a : ℕ) → IsTrue (has row a) → IsTrue (has (leaves x) a)
lowest_within row x w = holds_each row x w.0

pub lowest_root_p : (row : List ℕ) (ts : Forest) → IsLowest row (p_node ts) → IsRoot row ts
lowest_root_p row ts w = record { within = holds_each row (p_node ts) w.0; lowest = none_miss row ts w.1 }

pub lowest_root_q : (row : List ℕ) (ts : Forest) → IsLowest row (q_node ts) → IsRoot row ts
lowest_root_q row ts w = record { within = holds_each row (q_node ts) w.0; lowest = none_miss row ts w.1 }

-- what the templates make of the pertinent root
root_sound : (row : List ℕ) (x y : Outline) → HasArities x → ((a : ℕ) → occurs (leaves x) a ≤ 1) → IsLowest row x → IsRootMade row x y → Rooted row x y
root_sound row (leaf a) y c once w h = subst (Rooted row (leaf a)) (sym h.1) (full_rooted row (l1 a) (l1_kept row a h.0))
root_sound row (p_node ts) y c once w h = root_p_right row ts h.0 y (labels_sound row ts h.0 c.1 once h.1) once (lowest_root_p row ts w) h.2
root_sound row (q_node ts) y c once w h = root_q_right row ts h.0 y (labels_sound row ts h.0 c.1 once h.1) (lowest_root_q row ts w) h.2

-- a node of the tree
mutual
  pub node_arities : (x t : Outline) → IsNode x t → HasArities t → HasArities x
  node_arities x (leaf a) n c = subst HasArities (sym n) tt
  node_arities x (p_node ts) n c = elim n [ inl e ↦ subst HasArities (sym e) c | inr k ↦ node_arities_of x ts k c.1 ]
  node_arities x (q_node ts) n c = elim n [ inl e ↦ subst HasArities (sym e) c | inr k ↦ node_arities_of x ts k c.1 ]

  node_arities_of : (x : Outline) (ts : Forest) → IsNodeOf x ts → HaveArities ts → HasArities x
  node_arities_of x no_tree n c = absurd n
  node_arities_of x (tree_and t ts) n c = elim n [ inl k ↦ node_arities x t k c.0 | inr k ↦ node_arities_of x ts k c.1 ]

mutual
  pub node_occurs : (x t : Outline) → IsNode x t → (a : ℕ) → occurs (leaves x) a ≤ occurs (leaves t) a
  node_occurs x (leaf b) n a = subst (λ y. occurs (leaves y) a ≤ occurs (leaves (leaf b)) a) (sym n) (omega arith)
  node_occurs x (p_node ts) n a = elim n [ inl e ↦ subst (λ y. occurs (leaves y) a ≤ occurs (leaves_of ts) a) (sym e) (omega arith) | inr k ↦ node_occurs_of x ts k a ]
  node_occurs x (q_node ts) n a = elim n [ inl e ↦ subst (λ y. occurs (leaves y) a ≤ occurs (leaves_of ts) a) (sym e) (omega arith) | inr k ↦ node_occurs_of x ts k a ]

  node_occurs_of : (x : Outline) (ts : Forest) → IsNodeOf x ts → (a : ℕ) → occurs (leaves x) a ≤ occurs (leaves_of ts) a
  node_occurs_of x no_tree n a = absurd n
  node_occurs_of x (tree_and t ts) n a =
      elim n [
        | inl k ↦ omega (arith, node_occurs x t k a, occurs-append (leaves t) (leaves_of ts) a)
        | inr k ↦ omega (arith, node_occurs_of x ts k a, occurs-append (leaves t) (leaves_of ts) a)
      ]

pub node_tree : (x t : Outline) → IsNode x t → IsTree t → IsTree x
node_tree x t n w = (node_arities x t n w.0, λ a. omega (arith, w.1 a, node_occurs x t n a))

-- x is a part of the tree
pub part_arities : (ts us : Forest) (t : Outline) → HaveArities (join ts (tree_and t us)) → HasArities t
part_arities no_tree us t h = h.0
part_arities (tree_and s ts) us t h = part_arities ts us t h.1

part_occurs : (ts us : Forest) (t : Outline) (a : ℕ) → occurs (leaves t) a ≤ occurs (leaves_of (join ts (tree_and t us))) a
part_occurs no_tree us t a = omega (arith, occurs-append (leaves t) (leaves_of us) a)
part_occurs (tree_and s ts) us t a = omega (arith, occurs-append (leaves s) (leaves_of (join ts (tree_and t us))) a, part_occurs ts us t a)

pub replaced_arities : {x y t v : Outline} → IsReplaced x y t v → HasArities t → HasArities x
replaced_arities replaced_here h = h
replaced_arities (replaced_under_p {t = t} ts us r) h = replaced_arities r (part_arities ts us t h.1)
replaced_arities (replaced_under_q {t = t} ts us r) h = replaced_arities r (part_arities ts us t h.1)

pub replaced_occurs : {x y t v : Outline} → IsReplaced x y t v → (a : ℕ) → occurs (leaves x) a ≤ occurs (leaves t) a
replaced_occurs replaced_here a = omega arith
replaced_occurs (replaced_under_p {t = t} ts us r) a = omega (arith, replaced_occurs r a, part_occurs ts us t a)
replaced_occurs (replaced_under_q {t = t} ts us r) a = omega (arith, replaced_occurs r a, part_occurs ts us t a)

replaced_within : {x y t v : Outline} → IsReplaced x y t v → (a : ℕ) → IsTrue (has (leaves x) a) → IsTrue (has (leaves t) a)
replaced_within replaced_here a h = h
replaced_within (replaced_under_p {t = t} ts us r) a h = the_within t ts us a (replaced_within r a h)
replaced_within (replaced_under_q {t = t} ts us r) a h = the_within t ts us a (replaced_within r a h)

replaced_rooted : (row : List ℕ) {x y t v : Outline} → ((a : ℕ) → IsTrue (has row a) → IsTrue (has (leaves x) a)) → Rooted row x y → IsReplaced x y t v → Rooted row t v
replaced_rooted row within r replaced_here = r
replaced_rooted row within r (replaced_under_p {t = t} {u = u} ts us k) = rooted_p row t u (replaced_rooted row within r k) (λ a h. replaced_within k a (within a h)) ts us
replaced_rooted row within r (replaced_under_q {t = t} {u = u} ts us k) = rooted_q row t u (replaced_rooted row within r k) (λ a h. replaced_within k a (within a h)) ts us

-- the pertinent root replaced
pub made_rooted : (row : List ℕ) (x y t v : Outline) → HasArities t → ((a : ℕ) → occurs (leaves t) a ≤ 1) → IsLowest row x → IsRootMade row x y → IsReplaced x y t v → Rooted row t v
made_rooted row x y t v c once w m r =
    replaced_rooted row (lowest_within row x w) (root_sound row x y (replaced_arities r c) (λ a. omega (arith, once a, replaced_occurs r a)) w m) r
