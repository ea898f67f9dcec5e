-- A tree is labelled empty exactly where it has no column of the row, and full exactly where it has no other one.
use Rattle.std.proofs.Common.{◌↔◌, ℕ, List, [], ◌∷◌, IsTrue, IsFalse, refl, inl, inr}
use Rattle.column_order.specs.Orders.{has}
use Rattle.column_order.proofs.Lists.{has_head, has_append_left, has_append_right}
use Rattle.pq_tree.specs.Outline.{Outline, Forest, leaf, p_node, q_node, no_tree, tree_and, leaves, leaves_of}
use Rattle.pq_tree.specs.Proper.{IsTree}
use Rattle.tree_theory.specs.Templates.{Label, empty_label, full_label, none_sorted, to_empty, to_full, AreAllFull, AreAllEmpty}
use Rattle.tree_theory.specs.Chosen.{IsLabelOfP, p_empty, by_p1, IsLabelOfQ, q_empty, by_q1}
use Rattle.tree_theory.specs.Reduced.{IsTurned, IsLabel, AreLabels}
use Rattle.tree_theory.proofs.BelowRoot.{IsEmpty, IsFull}
use Rattle.tree_theory.proofs.Meaning.{IsLabelled, labelled_empty, labelled_full}
use Rattle.tree_theory.proofs.Sound.{label_sound}

-- a tree has the label x where every column of it is in Q, and AreAll says that all labels are x
record IsUniform (row : List ℕ) (x : Label) (Q : ℕ → Type 0) (AreAll : Forest → List Label → Type 0) : Type 0 where
  at_leaf : (a : ℕ) → Q a → IsLabel row (leaf a) x
  none : AreAll no_tree []
  more : (t : Outline) (ts : Forest) (ps : List Label) → AreAll ts ps → AreAll (tree_and t ts) (x ∷ ps)
  at_p : (ts : Forest) (ps : List Label) → AreAll ts ps → IsLabelOfP ts ps x
  at_q : (ts : Forest) (ps : List Label) → AreAll ts ps → IsLabelOfQ ts ps x
  turned : IsTurned x x

module _ {row : List ℕ} {x : Label} {Q : ℕ → Type 0} {AreAll : Forest → List Label → Type 0} (u : IsUniform row x Q AreAll) where
  mutual
    has_label : (t : Outline) → ((a : ℕ) → IsTrue (has (leaves t) a) → Q a) → IsLabel row t x
    has_label (leaf a) q = u.at_leaf a (q a (has_head a []))
    has_label (p_node ts) q = let k = have_labels ts q in (k.0, x, k.1, u.at_p ts k.0 k.2, u.turned)
    has_label (q_node ts) q = let k = have_labels ts q in (k.0, x, k.1, u.at_q ts k.0 k.2, u.turned)

    have_labels : (ts : Forest) → ((a : ℕ) → IsTrue (has (leaves_of ts) a) → Q a) → (ps : List Label) × AreLabels row ts ps × AreAll ts ps
    have_labels no_tree q = ([], tt, u.none)
    have_labels (tree_and t ts) q =
        let k = have_labels ts (λ a h. q a (has_append_right (leaves t) (leaves_of ts) a h)) in
        (x ∷ k.0, (has_label t (λ a h. q a (has_append_left (leaves t) (leaves_of ts) a h)), k.1), u.more t ts k.0 k.2)

module _ (row : List ℕ) where
  empty : IsUniform row empty_label (λ a. IsFalse (has row a)) AreAllEmpty
  empty =
      record {
        at_leaf = λ a e. inr (e, refl);
        none = none_sorted;
        more = λ t ts ps s. to_empty s;
        at_p = λ ts ps s. p_empty s;
        at_q = λ ts ps s. q_empty s;
        turned = refl;
      }

  full : IsUniform row full_label (λ a. IsTrue (has row a)) AreAllFull
  full = record { at_leaf = λ a f. inl (f, refl); none = none_sorted; more = λ t ts ps s. to_full s; at_p = λ ts ps s. by_p1 s; at_q = λ ts ps s. by_q1 s; turned = refl }

  is_empty : (t : Outline) → IsLabelled row t empty_label → IsEmpty row t
  is_empty t (labelled_empty e) = e

  is_full : (t : Outline) → IsLabelled row t full_label → IsFull row t
  is_full t (labelled_full f) = f

  pub empty_exactly : (t : Outline) → IsTree t → IsLabel row t empty_label ↔ ((a : ℕ) → IsTrue (has (leaves t) a) → IsFalse (has row a))
  empty_exactly t w = (λ h. is_empty t (label_sound row t empty_label w.0 w.1 h), has_label empty t)

  pub full_exactly : (t : Outline) → IsTree t → IsLabel row t full_label ↔ ((a : ℕ) → IsTrue (has (leaves t) a) → IsTrue (has row a))
  full_exactly t w = (λ h. is_full t (label_sound row t full_label w.0 w.1 h), has_label full t)
