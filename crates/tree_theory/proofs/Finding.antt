-- What is found at a node, from what is found at its children, and so in every tree.
use Rattle.std.proofs.Common.{◌≡◌, ℕ, false, List, [], ◌∷◌, Option, Some, None, IsTrue, refl, sym, ap, subst, inl, inr, length}
use Rattle.std.proofs.lemmas.Bool.{both_ways, cases_Bool}
use Rattle.column_order.specs.Orders.{has}
use Rattle.column_order.proofs.Lists.{has_cases}
use Rattle.pq_tree.specs.Outline.{Outline, Forest, leaf, p_node, q_node, no_tree, tree_and}
use Rattle.pq_tree.specs.Forests.{join, count}
use Rattle.pq_tree.specs.Nodes.{IsNode, IsNodeOf, holds}
use Rattle.pq_tree.specs.Proper.{IsTree}
use Rattle.pq_tree.proofs.Nodes.{holds_each, node_itself}
use Rattle.tree_theory.specs.Templates.{Label, empty_label, full_label, partial_label}
use Rattle.tree_theory.proofs.Computed.{p_label, q_label, p_outcome, q_outcome}
use Rattle.tree_theory.specs.Reduced.{IsTurned, AreLabels, IsReplaced, replaced_here, replaced_under_p, replaced_under_q}
use Rattle.tree_theory.specs.Outcomes.{IsLabelFound, AreLabelsFound, IsLowest, HasRootLabels, IsRootFound}
use Rattle.tree_theory.proofs.Failed.{labels_long}
use Rattle.tree_theory.proofs.NodeTemplates.{p_label_some, q_label_some}
use Rattle.tree_theory.proofs.NoTemplate.{p_label_none, q_label_none, p_outcome_none, q_outcome_none}
use Rattle.tree_theory.proofs.RootTemplates.{p_outcome_some, q_outcome_some}
use Rattle.tree_theory.proofs.Sound.{labels_sound, lowest_root_p, lowest_root_q}
use Rattle.pq_tree.proofs.Turnings.{are_equivalent_refl}
use Rattle.tree_theory.specs.Outcomes.{FindsAny}
use Rattle.tree_theory.specs.Chosen.{IsLabelOfP, IsLabelOfQ, IsRootOfP, IsRootOfQ}

turned_refl : (x : Label) → IsTurned x x
turned_refl empty_label = refl
turned_refl full_label = refl
turned_refl (partial_label h) = (h, are_equivalent_refl h.e, are_equivalent_refl h.f, refl)

-- at a node, what is computed is what a template gives
pub p_finds : (ts : Forest) (ps : List Label) (o : Option Label) → length ps ≡ count ts → o ≡ p_label ts ps → FindsAny (IsLabelOfP ts ps) o
p_finds ts ps (Some x) n e = p_label_some ts ps x n (sym e)
p_finds ts ps None n e = λ x k. p_label_none ts ps x (sym e) k

pub q_finds : (ts : Forest) (ps : List Label) (o : Option Label) → length ps ≡ count ts → o ≡ q_label ts ps → FindsAny (IsLabelOfQ ts ps) o
q_finds ts ps (Some x) n e = q_label_some ts ps x n (sym e)
q_finds ts ps None n e = λ x k. q_label_none ts ps x (sym e) k

pub p_root_finds : (ts : Forest) (ps : List Label) (o : Option Outline) → HasRootLabels (p_node ts) ps → o ≡ p_outcome ts ps → FindsAny (IsRootOfP ts ps) o
p_root_finds ts ps (Some y) r e = p_outcome_some ts ps y (labels_long r.0 ts ps r.3) (sym e)
p_root_finds ts ps None r e =
    λ u k. p_outcome_none r.0 ts ps (lowest_root_p r.0 ts r.2) (labels_sound r.0 ts ps r.1.0.1 r.1.1 r.3) (labels_long r.0 ts ps r.3) u (sym e) k

pub q_root_finds : (ts : Forest) (ps : List Label) (o : Option Outline) → HasRootLabels (q_node ts) ps → o ≡ q_outcome ts ps → FindsAny (IsRootOfQ ts ps) o
q_root_finds ts ps (Some y) r e = q_outcome_some ts ps y (labels_long r.0 ts ps r.3) (sym e)
q_root_finds ts ps None r e =
    λ u k. q_outcome_none r.0 ts ps (lowest_root_q r.0 ts r.2) (labels_sound r.0 ts ps r.1.0.1 r.1.1 r.3) (labels_long r.0 ts ps r.3) u (sym e) k

-- below the pertinent root
pub p_found : (row : List ℕ) (ts : Forest) (ps : List Label) (o : Option Label) → AreLabels row ts ps → FindsAny (IsLabelOfP ts ps) o → IsLabelFound row (p_node ts) o
p_found row ts ps (Some x) l f = (ps, x, l, f, turned_refl x)
p_found row ts ps None l f = (p_node ts, inl refl, (ps, l, f))

pub q_found : (row : List ℕ) (ts : Forest) (ps : List Label) (o : Option Label) → AreLabels row ts ps → FindsAny (IsLabelOfQ ts ps) o → IsLabelFound row (q_node ts) o
q_found row ts ps (Some x) l f = (ps, x, l, f, turned_refl x)
q_found row ts ps None l f = (q_node ts, inl refl, (ps, l, f))

-- at the pertinent root
pub p_root_found : (row : List ℕ) (ts : Forest) (ps : List Label) (o : Option Outline) → AreLabels row ts ps → FindsAny (IsRootOfP ts ps) o → IsRootFound row (p_node ts) o
p_root_found row ts ps (Some y) l f = (ps, l, f)
p_root_found row ts ps None l f = inl (ps, l, f)

pub q_root_found : (row : List ℕ) (ts : Forest) (ps : List Label) (o : Option Outline) → AreLabels row ts ps → FindsAny (IsRootOfQ ts ps) o → IsRootFound row (q_node ts) o
q_root_found row ts ps (Some y) l f = (ps, l, f)
q_root_found row ts ps None l f = inl (ps, l, f)

part_node : (x t : Outline) (ts us : Forest) → IsNode x t → IsNodeOf x (join ts (tree_and t us))
part_node x t no_tree us n = inl n
part_node x t (tree_and s ts) us n = inr (part_node x t ts us n)

-- a leaf that holds a row with a column
pub leaf_in_row : (row : List ℕ) (a c : ℕ) → IsTrue (has row c) → IsTrue (holds row (leaf a)) → IsTrue (has row a)
leaf_in_row row a c hc h =
    elim (has_cases a c [] (holds_each row (leaf a) h c hc)) [ inl e ↦ subst (λ y. IsTrue (has row y)) (sym e) hc | inr n ↦ absurd (both_ways false refl n) ]

-- every tree has a label, or no template fits at some node of it
leaf_decided : (row : List ℕ) (a : ℕ) → (o : Option Label) × IsLabelFound row (leaf a) o
leaf_decided row a =
    elim (cases_Bool (has row a)) [
      | inl k ↦ (Some full_label, inl (k, refl))
      | inr k ↦ (Some empty_label, inr (k, refl))
    ]

p_decided : (row : List ℕ) (ts : Forest) (o : Option (List Label)) → AreLabelsFound row ts o → (x : Option Label) × IsLabelFound row (p_node ts) x
p_decided row ts (Some ps) l = (p_label ts ps, p_found row ts ps (p_label ts ps) l (p_finds ts ps (p_label ts ps) (labels_long row ts ps l) refl))
p_decided row ts None l = (None, (l.0, inr l.1, l.2))

q_decided : (row : List ℕ) (ts : Forest) (o : Option (List Label)) → AreLabelsFound row ts o → (x : Option Label) × IsLabelFound row (q_node ts) x
q_decided row ts (Some ps) l = (q_label ts ps, q_found row ts ps (q_label ts ps) l (q_finds ts ps (q_label ts ps) (labels_long row ts ps l) refl))
q_decided row ts None l = (None, (l.0, inr l.1, l.2))

both_decided : (row : List ℕ) (t : Outline) (ts : Forest) (x : Option Label) (o : Option (List Label)) → IsLabelFound row t x → AreLabelsFound row ts o → (p : Option (List Label)) × AreLabelsFound row (tree_and t ts) p
both_decided row t ts (Some x) (Some ps) h l = (Some (x ∷ ps), (h, l))
both_decided row t ts None o h l = (None, (h.0, inl h.1, h.2))
both_decided row t ts (Some x) None h l = (None, (l.0, inr l.1, l.2))

mutual
  label_decided : (row : List ℕ) (t : Outline) → (o : Option Label) × IsLabelFound row t o
  label_decided row (leaf a) = leaf_decided row a
  label_decided row (p_node ts) = let k = labels_decided row ts in p_decided row ts k.0 k.1
  label_decided row (q_node ts) = let k = labels_decided row ts in q_decided row ts k.0 k.1

  labels_decided : (row : List ℕ) (ts : Forest) → (o : Option (List Label)) × AreLabelsFound row ts o
  labels_decided row no_tree = (Some [], tt)
  labels_decided row (tree_and t ts) = let k = label_decided row t in let l = labels_decided row ts in both_decided row t ts k.0 l.0 k.1 l.1

p_root_decided : (row : List ℕ) (ts : Forest) (o : Option (List Label)) → IsTree (p_node ts) → IsLowest row (p_node ts) → AreLabelsFound row ts o → (y : Option Outline) × IsRootFound row (p_node ts) y
p_root_decided row ts (Some ps) c w l = (p_outcome ts ps, p_root_found row ts ps (p_outcome ts ps) l (p_root_finds ts ps (p_outcome ts ps) (row, c, w, l) refl))
p_root_decided row ts None c w l = (None, inr (l.0, l.1, l.2))

q_root_decided : (row : List ℕ) (ts : Forest) (o : Option (List Label)) → IsTree (q_node ts) → IsLowest row (q_node ts) → AreLabelsFound row ts o → (y : Option Outline) × IsRootFound row (q_node ts) y
q_root_decided row ts (Some ps) c w l = (q_outcome ts ps, q_root_found row ts ps (q_outcome ts ps) l (q_root_finds ts ps (q_outcome ts ps) (row, c, w, l) refl))
q_root_decided row ts None c w l = (None, inr (l.0, l.1, l.2))

-- every pertinent root of a row with a column is replaced, or no template fits there
pub root_decided : (row : List ℕ) (c : ℕ) (x : Outline) → IsTrue (has row c) → IsTree x → IsLowest row x → (y : Option Outline) × IsRootFound row x y
root_decided row c (leaf a) hc n w = (Some (leaf a), (leaf_in_row row a c hc w.0, refl))
root_decided row c (p_node ts) hc n w = let k = labels_decided row ts in p_root_decided row ts k.0 n w k.1
root_decided row c (q_node ts) hc n w = let k = labels_decided row ts in q_root_decided row ts k.0 n w k.1

-- the trees with one in the place of another
record PutIn (x y : Outline) (ts : Forest) : Type 0 where
  before : Forest
  t : Outline
  u : Outline
  behind : Forest
  old : join before (tree_and t behind) ≡ ts
  replaced : IsReplaced x y t u

-- the node over these trees, where N makes a node of trees
under_node : (x y : Outline) (N : Forest → Outline) (ts : Forest) →
    ((t u : Outline) (before behind : Forest) → IsReplaced x y t u → IsReplaced x y (N (join before (tree_and t behind))) (N (join before (tree_and u behind)))) → PutIn x y ts →
    (v : Outline) × IsReplaced x y (N ts) v
under_node x y N ts under w = (
  N (join w.before (tree_and w.u w.behind)),
  subst (λ s. IsReplaced x y (N s) (N (join w.before (tree_and w.u w.behind)))) w.old (under w.t w.u w.before w.behind w.replaced),
)

-- a node has a place in the tree, where another may stand
mutual
  pub replaced_at : (x y t : Outline) → IsNode x t → (v : Outline) × IsReplaced x y t v
  replaced_at x y (leaf a) n = (y, subst (λ s. IsReplaced x y s y) n replaced_here)
  replaced_at x y (p_node ts) n =
      elim n [
        | inl e ↦ (y, subst (λ s. IsReplaced x y s y) e replaced_here)
        | inr k ↦ under_node x y p_node ts (λ t u before behind r. replaced_under_p before behind r) (put_in x y ts k)
      ]
  replaced_at x y (q_node ts) n =
      elim n [
        | inl e ↦ (y, subst (λ s. IsReplaced x y s y) e replaced_here)
        | inr k ↦ under_node x y q_node ts (λ t u before behind r. replaced_under_q before behind r) (put_in x y ts k)
      ]

  put_in : (x y : Outline) (ts : Forest) → IsNodeOf x ts → PutIn x y ts
  put_in x y no_tree n = absurd n
  put_in x y (tree_and t ts) n =
      elim n [
        | inl k ↦ let w = replaced_at x y t k in record { before = no_tree; t = t; u = w.0; behind = ts; old = refl; replaced = w.1 }
        | inr k ↦
            let w : PutIn x y ts = put_in x y ts k in
            record { before = tree_and t w.before; t = w.t; u = w.u; behind = w.behind; old = ap (tree_and t) w.old; replaced = w.replaced }
      ]

-- x is a node of a tree in which it is replaced
pub replaced_node : {x y t v : Outline} → IsReplaced x y t v → IsNode x t
replaced_node {x = x} replaced_here = node_itself x
replaced_node {x = x} (replaced_under_p {t = t} ts us r) = inr (part_node x t ts us (replaced_node r))
replaced_node {x = x} (replaced_under_q {t = t} ts us r) = inr (part_node x t ts us (replaced_node r))
