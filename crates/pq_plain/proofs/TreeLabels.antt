-- The labels of the trees of a list, and of the nodes over them.
use Rattle.std.proofs.Common.{◌≡◌, ◌∙◌, ◌+◌, ◌<◌, ℕ, List, [], ◌∷◌, ◌++◌, Option, Some, None, IsTrue, map, take, drop, length, get_or, refl, sym, ap, subst, inl, inr, arith, option_map}
use Rattle.std.proofs.lemmas.List.{map_more, map-append, take-append-drop, drop_more, length-map}
use Rattle.std.specs.declared.vec.Vec.{Vec}
use Rattle.std.specs.declared.alloc.Global.{Global}
use Rattle.column_order.specs.Orders.{has}
use Rattle.column_order.proofs.Lists.{has_head}
use Rattle.pq_tree.specs.Outline.{Outline, leaf, p_node, q_node}
use Rattle.pq_tree.specs.Forests.{forest}
use Rattle.pq_tree.specs.Nodes.{IsNode, IsNodeOf}
use Rattle.pq_tree.specs.Proper.{outline_of, IsTree}
use Rattle.pq_tree.specs.declared.Tree.{Tree, Leaf, P, Q}
use Rattle.pq_tree.proofs.Forests.{count_forest}
use Rattle.pq_tree.proofs.Shown.{outline_of-Leaf, outline_of-P, outline_of-Q}
use Rattle.tree_theory.specs.Templates.{Label}
use Rattle.pq_plain.specs.Seen.{outlines, label_seen, labels_seen}
use Rattle.pq_plain.specs.AtRoot.{outcome_seen}
use Rattle.tree_theory.specs.Reduced.{IsLabelOfLeaf, IsLabel, AreLabels}
use Rattle.tree_theory.specs.Outcomes.{IsLabelFound, AreLabelsFound, IsLowest, HasRootLabels, IsRootFound}
use Rattle.pq_plain.specs.declared.label.Label.{Label as Marked}
use Rattle.pq_plain.specs.declared.at_root.Outcome.{Outcome}
use Rattle.tree_theory.proofs.Failed.{labels_long}
use Rattle.tree_theory.proofs.Finding.{p_found, q_found, p_root_found, q_root_found, leaf_in_row}
use Rattle.tree_theory.specs.Outcomes.{FindsAny}
use Rattle.tree_theory.specs.Chosen.{IsLabelOfP, IsLabelOfQ, IsRootOfP, IsRootOfQ}

labels_size : (row : List ℕ) (xs : List Outline) (ps : List Label) → AreLabels row (forest xs) ps → length ps ≡ length xs
labels_size row xs ps h = labels_long row (forest xs) ps h ∙ count_forest xs

-- the labels that were found
some_labels : (row : List ℕ) (ts : List Tree) (o : Option (Vec Marked Global)) (v : Vec Marked Global) → o ≡ Some v → AreLabelsFound row (outlines ts) (option_map labels_seen o) → AreLabels row (outlines ts) (labels_seen v)
some_labels row ts o v e h = subst (λ x. AreLabelsFound row (outlines ts) (option_map labels_seen x)) e h

-- as many labels as children
pub labels_length : (row : List ℕ) (ts us : List Tree) (o : Option (Vec Marked Global)) (v : Vec Marked Global) → us ≡ ts → o ≡ Some v → AreLabelsFound row (outlines ts) (option_map labels_seen o) →
    length v.items ≡ length us
labels_length row ts us o v s e h =
    omega (arith, labels_size row (map outline_of ts) (map label_seen v.items) (some_labels row ts o v e h), length-map v.items label_seen, length-map ts outline_of, ap length s)

labels_push : (row : List ℕ) (xs : List Outline) (x : Outline) (ps : List Label) (l : Label) → AreLabels row (forest xs) ps → IsLabel row x l → AreLabels row (forest (xs ++ x ∷ [])) (ps ++ l ∷ [])
labels_push row [] x [] l h k = (k, tt)
labels_push row [] x (p ∷ ps) l h k = absurd h
labels_push row (y ∷ xs) x [] l h k = absurd h
labels_push row (y ∷ xs) x (p ∷ ps) l h k = (h.0, labels_push row xs x ps l h.1 k)

-- one label more
pub labels_more : (row : List ℕ) (ts : List Tree) (i : ℕ) (t : Tree) (ls new : List Marked) (l : Marked) (o : Option Marked) → i < length ts → t ≡ get_or ts i t → new ≡ ls ++ l ∷ [] →
    AreLabels row (outlines (take i ts)) (map label_seen ls) → o ≡ Some l → IsLabelFound row (outline_of t) (option_map label_seen o) → AreLabels row (outlines (take (i + 1) ts)) (map label_seen new)
labels_more row ts i t ls new l o h r n e s k =
    subst (AreLabels row (outlines (take (i + 1) ts))) (sym (ap (map label_seen) n ∙ map-append label_seen ls (l ∷ [])))
    (subst (λ xs. AreLabels row (forest xs) (map label_seen ls ++ label_seen l ∷ [])) (sym (map_more outline_of ts i t h))
    (labels_push row (map outline_of (take i ts)) (outline_of (get_or ts i t)) (map label_seen ls) (label_seen l) e
    (subst (λ x. IsLabel row (outline_of x) (label_seen l)) r (subst (λ x. IsLabelFound row (outline_of t) (option_map label_seen x)) s k))))

-- a node of one of the trees
pub node_among : (z x : Outline) (xs ys : List Outline) → IsNode z x → IsNodeOf z (forest (xs ++ x ∷ ys))
node_among z x [] ys n = inl n
node_among z x (y ∷ xs) ys n = inr (node_among z x xs ys n)

pub labels_stop : (row : List ℕ) (ts : List Tree) (i : ℕ) (t : Tree) (o : Option Marked) → i < length ts → t ≡ get_or ts i t →
    o ≡ None → IsLabelFound row (outline_of t) (option_map label_seen o) → AreLabelsFound row (outlines ts) None
labels_stop row ts i t o h r s k =
    let w : IsLabelFound row (outline_of t) None = subst (λ x. IsLabelFound row (outline_of t) (option_map label_seen x)) s k in
    let cut : map outline_of ts ≡ map outline_of (take i ts) ++ outline_of (get_or ts i t) ∷ map outline_of (drop (i + 1) ts) =
    ap (map outline_of) (sym (take-append-drop i ts) ∙ ap (λ xs. take i ts ++ xs) (drop_more ts i t h)) ∙ map-append outline_of (take i ts) (get_or ts i t ∷ drop (i + 1) ts) in (
      w.0,
      subst (λ xs. IsNodeOf w.0 (forest xs)) (sym cut)
          (node_among w.0 (outline_of (get_or ts i t)) (map outline_of (take i ts)) (map outline_of (drop (i + 1) ts)) (subst (λ x. IsNode w.0 (outline_of x)) r w.1)),
      w.2,
    )

-- the node over the trees
pub at_P : (t : Tree) (v : Vec Tree Global) (ts : List Tree) → t ≡ P v → ts ≡ v.items → outline_of t ≡ p_node (outlines ts)
at_P t v ts e s = ap outline_of e ∙ outline_of-P v ∙ ap (λ xs. p_node (outlines xs)) (sym s)

pub at_Q : (t : Tree) (v : Vec Tree Global) (ts : List Tree) → t ≡ Q v → ts ≡ v.items → outline_of t ≡ q_node (outlines ts)
at_Q t v ts e s = ap outline_of e ∙ outline_of-Q v ∙ ap (λ xs. q_node (outlines xs)) (sym s)

no_labels : (row : List ℕ) (ts : List Tree) (o : Option (Vec Marked Global)) → o ≡ None → AreLabelsFound row (outlines ts) (option_map labels_seen o) → AreLabelsFound row (outlines ts) None
no_labels row ts o e h = subst (λ x. AreLabelsFound row (outlines ts) (option_map labels_seen x)) e h

pub leaf_label : (row : List ℕ) (t : Tree) (a : ℕ) (x : Label) → t ≡ Leaf a → IsLabelOfLeaf row a x → IsLabelFound row (outline_of t) (Some x)
leaf_label row t a x e h = subst (λ y. IsLabelFound row y (Some x)) (sym (ap outline_of e ∙ outline_of-Leaf a)) h

module _ (row : List ℕ) (t : Tree) (v : Vec Tree Global) (ts : List Tree) (o : Option (Vec Marked Global)) (s : ts ≡ v.items) (h : AreLabelsFound row (outlines ts) (option_map labels_seen o)) where
  -- below the pertinent root
  pub P_none : t ≡ P v → o ≡ None → IsLabelFound row (outline_of t) None
  P_none e n =
      let w : AreLabelsFound row (outlines ts) None = no_labels row ts o n h in
      subst (λ y. IsLabelFound row y None) (sym (at_P t v ts e s)) (w.0, inr w.1, w.2)

  pub Q_none : t ≡ Q v → o ≡ None → IsLabelFound row (outline_of t) None
  Q_none e n =
      let w : AreLabelsFound row (outlines ts) None = no_labels row ts o n h in
      subst (λ y. IsLabelFound row y None) (sym (at_Q t v ts e s)) (w.0, inr w.1, w.2)

  module _ (us : List Tree) (w : Vec Marked Global) (u : us ≡ v.items) (n : o ≡ Some w) where
    labels_are : AreLabels row (outlines us) (labels_seen w)
    labels_are = subst (λ xs. AreLabels row (outlines xs) (labels_seen w)) (s ∙ sym u) (some_labels row ts o w n h)

    pub P_some : (r : Option Label) → t ≡ P v → FindsAny (IsLabelOfP (outlines us) (labels_seen w)) r → IsLabelFound row (outline_of t) r
    P_some r e k = subst (λ y. IsLabelFound row y r) (sym (at_P t v us e u)) (p_found row (outlines us) (labels_seen w) r labels_are k)

    pub Q_some : (r : Option Label) → t ≡ Q v → FindsAny (IsLabelOfQ (outlines us) (labels_seen w)) r → IsLabelFound row (outline_of t) r
    Q_some r e k = subst (λ y. IsLabelFound row y r) (sym (at_Q t v us e u)) (q_found row (outlines us) (labels_seen w) r labels_are k)

    -- at the pertinent root
    pub P_root : t ≡ P v → IsTree (outline_of t) → IsLowest row (outline_of t) → HasRootLabels (p_node (outlines us)) (labels_seen w)
    P_root e tree lowest = let a : outline_of t ≡ p_node (outlines us) = at_P t v us e u in (row, subst IsTree a tree, subst (IsLowest row) a lowest, labels_are)

    pub Q_root : t ≡ Q v → IsTree (outline_of t) → IsLowest row (outline_of t) → HasRootLabels (q_node (outlines us)) (labels_seen w)
    Q_root e tree lowest = let a : outline_of t ≡ q_node (outlines us) = at_Q t v us e u in (row, subst IsTree a tree, subst (IsLowest row) a lowest, labels_are)

    module _ (r : Outcome) where
      pub root_P_some : t ≡ P v → FindsAny (IsRootOfP (outlines us) (labels_seen w)) (outcome_seen (p_node (outlines us)) r) → IsRootFound row (outline_of t) (outcome_seen (outline_of t) r)
      root_P_some e k =
          let a : outline_of t ≡ p_node (outlines us) = at_P t v us e u in
          subst (λ y. IsRootFound row y (outcome_seen y r)) (sym a)
          (p_root_found row (outlines us) (labels_seen w) (outcome_seen (p_node (outlines us)) r) labels_are k)

      pub root_Q_some : t ≡ Q v → FindsAny (IsRootOfQ (outlines us) (labels_seen w)) (outcome_seen (q_node (outlines us)) r) → IsRootFound row (outline_of t) (outcome_seen (outline_of t) r)
      root_Q_some e k =
          let a : outline_of t ≡ q_node (outlines us) = at_Q t v us e u in
          subst (λ y. IsRootFound row y (outcome_seen y r)) (sym a)
          (q_root_found row (outlines us) (labels_seen w) (outcome_seen (q_node (outlines us)) r) labels_are k)

  pub root_P_none : t ≡ P v → o ≡ None → IsRootFound row (outline_of t) None
  root_P_none e n =
      let w : AreLabelsFound row (outlines ts) None = no_labels row ts o n h in
      subst (λ y. IsRootFound row y None) (sym (at_P t v ts e s)) (inr (w.0, w.1, w.2))

  pub root_Q_none : t ≡ Q v → o ≡ None → IsRootFound row (outline_of t) None
  root_Q_none e n =
      let w : AreLabelsFound row (outlines ts) None = no_labels row ts o n h in
      subst (λ y. IsRootFound row y None) (sym (at_Q t v ts e s)) (inr (w.0, w.1, w.2))

-- a row with a column has one
pub some_number : (row : List ℕ) → 0 < length row → (c : ℕ) × IsTrue (has row c)
some_number [] l = absurd (omega arith)
some_number (c ∷ row) l = (c, has_head c row)

pub leaf_root : (row : List ℕ) (t : Tree) (a : ℕ) → t ≡ Leaf a → 0 < length row → IsLowest row (outline_of t) → IsRootFound row (outline_of t) (Some (outline_of t))
leaf_root row t a e l w =
    let k : outline_of t ≡ leaf a = ap outline_of e ∙ outline_of-Leaf a in
    let c : (c : ℕ) × IsTrue (has row c) = some_number row l in
    subst (λ y. IsRootFound row y (Some y)) (sym k) (leaf_in_row row a c.0 c.1 (subst (IsLowest row) k w).0, refl)
