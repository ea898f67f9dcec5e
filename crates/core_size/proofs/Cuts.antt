-- What the templates below the pertinent root make of a tree has less slack than the tree.
use Rattle.std.proofs.Common.{◌⊎◌, ℕ, ◌+◌, ◌≤◌, List, [], ◌∷◌, reverse, length, Option, sym, subst, inl, inr, arith}
use Rattle.pq_tree.specs.Outline.{Outline, Forest, leaf, p_node, q_node, no_tree, tree_and}
use Rattle.pq_tree.specs.Proper.{HasArities, HaveArities}
use Rattle.pq_tree.specs.Forests.{count, back}
use Rattle.tree_theory.specs.Templates.{Partial, Label, empty_label, full_label, partial_label, star, q2, IsSorted, none_sorted, to_empty, to_full, to_partial, IsRun}
use Rattle.tree_theory.specs.Chosen.{IsLabelOfP, p_empty, by_p1, by_p3, by_p5, IsLabelOfQ, q_empty, by_q1, by_q2}
use Rattle.tree_theory.specs.Reduced.{IsTurned, IsLabel, AreLabels}
use Rattle.tree_theory.proofs.Sorts.{AreEach, each_back, listed, sorted_count, run_sorted}
use Rattle.tree_theory.proofs.Measures.{measure_parts, measure-join, measure-back, turned_measure, star_measure, q2_measure}
use Rattle.core_size.specs.Slack.{slack, slack_of}
use Rattle.core_size.proofs.Slacks.{slacks}

-- a partial tree has more slack than the trees that it becomes
abbrev pub IsCut : Outline → Label → Type 0
IsCut t empty_label = Unit {0}
IsCut t full_label = Unit {0}
IsCut t (partial_label h) = slack_of h.e + slack_of h.f + 1 ≤ slack t

-- so for each of the trees
abbrev pub AreCut : Forest → List Label → Type 0
AreCut ts ps = AreEach IsCut ts ps

-- the children of a node, sorted by their labels
pub sorted_cut : {ts es fs : Forest} {ps : List Label} {hs : List Partial} → IsSorted ts ps es fs hs → AreCut ts ps → slack_of es + slack_of fs + measure_parts slack_of hs + length hs ≤ slack_of ts
sorted_cut none_sorted h = omega arith
sorted_cut (to_empty s) h = omega (arith, sorted_cut s h.1)
sorted_cut (to_full s) h = omega (arith, sorted_cut s h.1)
sorted_cut (to_partial s) h = omega (arith, h.0, sorted_cut s h.1)

-- what Q2 makes of the children of a Q-node, read from either end
pub run_cut : (ts : Forest) (ps : List Label) (es fs : Forest) (h : Option Partial) → AreCut ts ps → IsRun ts ps es h fs ⊎ IsRun (back ts) (reverse ps) es h fs →
    slack_of (q2 es h fs).e + slack_of (q2 es h fs).f + length (listed h) ≤ slack_of ts
run_cut ts ps es fs h a p =
    elim p [
      | inl r ↦ omega (arith, q2_measure slacks es fs h, sorted_cut (run_sorted r) a)
      | inr r ↦ omega (arith, q2_measure slacks es fs h, sorted_cut (run_sorted r) (each_back IsCut ts ps a), measure-back slacks ts)
    ]

p_cut : (ts : Forest) (ps : List Label) (x : Label) → 2 ≤ count ts → AreCut ts ps → IsLabelOfP ts ps x → IsCut (p_node ts) x
p_cut ts ps x n h (p_empty s) = tt
p_cut ts ps x n h (by_p1 s) = tt
p_cut ts ps x n h (by_p3 y s) =
    subst (λ z. IsCut (p_node ts) (partial_label z)) (sym s.becomes)
    (omega (arith, sorted_cut s.pattern h, sorted_count s.pattern, star_measure slacks (tree_and s.e s.es), star_measure slacks (tree_and s.f s.fs)))
p_cut ts ps x n h (by_p5 y s) =
    subst (λ z. IsCut (p_node ts) (partial_label z)) (sym s.becomes)
    (omega (
      arith,
      n,
      sorted_cut s.pattern h,
      sorted_count s.pattern,
      measure-join slacks (star s.es) s.h.e,
      measure-join slacks s.h.f (star s.fs),
      star_measure slacks s.es,
      star_measure slacks s.fs,
    ))

q_cut : (ts : Forest) (ps : List Label) (x : Label) → AreCut ts ps → IsLabelOfQ ts ps x → IsCut (q_node ts) x
q_cut ts ps x h (q_empty s) = tt
q_cut ts ps x h (by_q1 s) = tt
q_cut ts ps x h (by_q2 y q) = subst (λ z. IsCut (q_node ts) (partial_label z)) (sym q.becomes) (omega (arith, run_cut ts ps q.es q.fs q.h h q.pattern))

turned_cut : (t : Outline) (y x : Label) → IsCut t y → IsTurned y x → IsCut t x
turned_cut t empty_label x h k = subst (IsCut t) (sym k) h
turned_cut t full_label x h k = subst (IsCut t) (sym k) h
turned_cut t (partial_label p) x h k = subst (IsCut t) (sym k.3) (omega (arith, h, turned_measure slacks p.e k.0.e k.1, turned_measure slacks p.f k.0.f k.2))

leaf_cut : (row : List ℕ) (a : ℕ) (x : Label) → IsLabel row (leaf a) x → IsCut (leaf a) x
leaf_cut row a x h = elim h [
  | inl k ↦ subst (IsCut (leaf a)) (sym k.1) tt
  | inr k ↦ subst (IsCut (leaf a)) (sym k.1) tt
]

mutual
  pub label_cut : (row : List ℕ) (t : Outline) (x : Label) → HasArities t → IsLabel row t x → IsCut t x
  label_cut row (leaf a) x c h = leaf_cut row a x h
  label_cut row (p_node ts) x c h = turned_cut (p_node ts) h.1 x (p_cut ts h.0 h.1 c.0 (labels_cut row ts h.0 c.1 h.2) h.3) h.4
  label_cut row (q_node ts) x c h = turned_cut (q_node ts) h.1 x (q_cut ts h.0 h.1 (labels_cut row ts h.0 c.1 h.2) h.3) h.4

  pub labels_cut : (row : List ℕ) (ts : Forest) (ps : List Label) → HaveArities ts → AreLabels row ts ps → AreCut ts ps
  labels_cut row no_tree [] c h = tt
  labels_cut row no_tree (x ∷ ps) c h = absurd h
  labels_cut row (tree_and t ts) [] c h = absurd h
  labels_cut row (tree_and t ts) (x ∷ ps) c h = (label_cut row t x c.0 h.0, labels_cut row ts ps c.1 h.1)
