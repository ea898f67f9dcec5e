-- The label of each tree below the pertinent root is paid.
use Rattle.std.proofs.Common.{◌≡◌, ◌⊎◌, ℕ, ◌+◌, ◌*◌, ◌≤◌, Bool, true, false, cond, ◌||◌, List, [], ◌∷◌, ◌++◌, reverse, length, Option, IsFalse, refl, sym, ap, subst, inl, inr, arith}
use Rattle.std.proofs.lemmas.List.Sums.{sum_by-cons}
use Rattle.column_order.specs.Orders.{has}
use Rattle.pq_tree.specs.Outline.{Outline, Forest, leaf, p_node, q_node, no_tree, tree_and, leaves, leaves_of}
use Rattle.pq_tree.specs.Proper.{HasArities, HaveArities}
use Rattle.pq_tree.specs.Forests.{count, back}
use Rattle.pq_tree.specs.Nodes.{meets}
use Rattle.pq_tree.specs.Amortised.{nodes_met, nodes_met_of, weight, weight_of}
use Rattle.pq_tree.proofs.Amortised.{weight_of-join, weight_of-back}
use Rattle.tree_theory.specs.Templates.{Partial, Label, IsSorted, empty_label, full_label, partial_label, star, q2, IsRun}
use Rattle.tree_theory.specs.Chosen.{IsLabelOfP, p_empty, by_p1, by_p3, by_p5, IsLabelOfQ, q_empty, by_q1, by_q2}
use Rattle.tree_theory.specs.Reduced.{IsTurned, IsLabel, AreLabels}
use Rattle.tree_theory.proofs.Hits.{hits_of, in_row}
use Rattle.tree_theory.proofs.Sorts.{each_back, sorted_count, run_sorted}
use Rattle.tree_theory.proofs.Measures.{measure_parts, turned_measure, star_measure, q2_measure}
use Rattle.tree_theory.proofs.Weights.{weights}
use Rattle.tree_theory.proofs.Paid.{IsPaid, ArePaid, nodes_met_of-back, hits_of-back, sorted_paid, empty_unmet}

-- a node is met at most once
pub met_once : (b : Bool) → cond {A = ℕ} b 1 0 ≤ 1
met_once true = omega arith
met_once false = omega arith

-- trees of which no node is met have no column of the row
meets_left : (row xs ys : List ℕ) → IsFalse (meets row xs) → IsFalse (meets row ys) → IsFalse (meets row (xs ++ ys))
meets_left row [] ys h k = k
meets_left row (x ∷ xs) ys h k =
    elim (has row x) as (λ b. IsFalse (b || meets row xs) → IsFalse (b || meets row (xs ++ ys))) [ true ↦ λ e. e | false ↦ λ e. meets_left row xs ys e k ] h

no_meet : (b : Bool) (n : ℕ) → cond {A = ℕ} b 1 0 + n ≡ 0 → IsFalse b
no_meet true n e = absurd (omega arith)
no_meet false n e = refl

leaf_unmet : (b : Bool) → cond {A = ℕ} b 1 0 ≡ 0 → IsFalse (b || false)
leaf_unmet true e = absurd (omega arith)
leaf_unmet false e = refl

unmet : (row : List ℕ) (t : Outline) → nodes_met row t ≡ 0 → IsFalse (meets row (leaves t))
unmet row (leaf a) e = leaf_unmet (has row a) e
unmet row (p_node ts) e = no_meet (meets row (leaves_of ts)) (nodes_met_of row ts) e
unmet row (q_node ts) e = no_meet (meets row (leaves_of ts)) (nodes_met_of row ts) e

unmet_of : (row : List ℕ) (ts : Forest) → nodes_met_of row ts ≡ 0 → IsFalse (meets row (leaves_of ts))
unmet_of row no_tree e = refl
unmet_of row (tree_and t ts) e = meets_left row (leaves t) (leaves_of ts) (unmet row t (omega arith)) (unmet_of row ts (omega arith))

node_unmet : (row : List ℕ) (ts : Forest) → nodes_met_of row ts ≡ 0 → cond {A = ℕ} (meets row (leaves_of ts)) 1 0 + nodes_met_of row ts ≡ 0
node_unmet row ts e = omega (arith, ap (λ b. cond {A = ℕ} b 1 0) (unmet_of row ts e))

-- a leaf
leaf_paid : (row : List ℕ) (a : ℕ) (x : Label) → IsLabel row (leaf a) x → IsPaid row (leaf a) x
leaf_paid row a x h =
    elim h [
      | inl k ↦ subst (IsPaid row (leaf a)) (sym k.1) (omega (arith, sum_by-cons (in_row row) a [], ap (λ b. cond {A = ℕ} b 1 0) k.0))
      | inr k ↦ subst (IsPaid row (leaf a)) (sym k.1) (ap (λ b. cond {A = ℕ} b 1 0) k.0)
    ]

-- what is paid of a P-node and its children, sorted by their labels
pub p_children_paid : (row : List ℕ) {ts es fs : Forest} {ps : List Label} {hs : List Partial} → IsSorted ts ps es fs hs → ArePaid row ts ps →
    nodes_met row (p_node ts) + count es + 2 * count fs + length hs + (weight_of es + weight_of fs + measure_parts weight_of hs) ≤ 1 + 2 * hits_of row ts + weight (p_node ts)
p_children_paid row {ts = ts} s h = omega (arith, met_once (meets row (leaves_of ts)), sorted_paid row s h, sorted_count s)

-- a P-node
p_paid : (row : List ℕ) (ts : Forest) (ps : List Label) (x : Label) → 2 ≤ count ts → ArePaid row ts ps → IsLabelOfP ts ps x → IsPaid row (p_node ts) x
p_paid row ts ps x n h (p_empty s) = node_unmet row ts (empty_unmet row s h)
p_paid row ts ps x n h (by_p1 s) = omega (arith, n, p_children_paid row s h)
p_paid row ts ps x n h (by_p3 y s) =
    subst (λ z. IsPaid row (p_node ts) (partial_label z)) (sym s.becomes)
    (omega (arith, p_children_paid row s.pattern h, star_measure weights (tree_and s.e s.es), star_measure weights (tree_and s.f s.fs)))
p_paid row ts ps x n h (by_p5 y s) =
    subst (λ z. IsPaid row (p_node ts) (partial_label z)) (sym s.becomes)
    (omega (
      arith,
      p_children_paid row s.pattern h,
      weight_of-join (star s.es) s.h.e,
      weight_of-join s.h.f (star s.fs),
      star_measure weights s.es,
      star_measure weights s.fs,
    ))

-- what Q2 makes of the children of a Q-node, read from either end
pub run_paid : (row : List ℕ) (ts : Forest) (ps : List Label) (es fs : Forest) (h : Option Partial) → ArePaid row ts ps → IsRun ts ps es h fs ⊎ IsRun (back ts) (reverse ps) es h fs →
    nodes_met_of row ts + (weight_of (q2 es h fs).e + weight_of (q2 es h fs).f) ≤ 2 * hits_of row ts + weight_of ts
run_paid row ts ps es fs h a p =
    elim p [
      | inl r ↦ omega (arith, q2_measure weights es fs h, sorted_paid row (run_sorted r) a)
      | inr r ↦
          omega (arith, q2_measure weights es fs h, sorted_paid row (run_sorted r) (each_back (IsPaid row) ts ps a), nodes_met_of-back row ts, hits_of-back row ts, weight_of-back ts)
    ]

-- a Q-node
q_paid : (row : List ℕ) (ts : Forest) (ps : List Label) (x : Label) → 3 ≤ count ts → ArePaid row ts ps → IsLabelOfQ ts ps x → IsPaid row (q_node ts) x
q_paid row ts ps x n h (q_empty s) = node_unmet row ts (empty_unmet row s h)
q_paid row ts ps x n h (by_q1 s) = omega (arith, n, met_once (meets row (leaves_of ts)), sorted_paid row s h)
q_paid row ts ps x n h (by_q2 y q) =
    subst (λ z. IsPaid row (q_node ts) (partial_label z)) (sym q.becomes)
    (omega (arith, met_once (meets row (leaves_of ts)), run_paid row ts ps q.es q.fs q.h h q.pattern))

-- the trees of a partial may be turned
turned_paid : (row : List ℕ) (t : Outline) (y x : Label) → IsPaid row t y → IsTurned y x → IsPaid row t x
turned_paid row t empty_label x h k = subst (IsPaid row t) (sym k) h
turned_paid row t full_label x h k = subst (IsPaid row t) (sym k) h
turned_paid row t (partial_label p) x h k =
    subst (IsPaid row t) (sym k.3) (omega (arith, h, turned_measure weights p.e k.0.e k.1, turned_measure weights p.f k.0.f k.2))

mutual
  pub label_paid : (row : List ℕ) (t : Outline) (x : Label) → HasArities t → IsLabel row t x → IsPaid row t x
  label_paid row (leaf a) x c h = leaf_paid row a x h
  label_paid row (p_node ts) x c h = turned_paid row (p_node ts) h.1 x (p_paid row ts h.0 h.1 c.0 (labels_paid row ts h.0 c.1 h.2) h.3) h.4
  label_paid row (q_node ts) x c h = turned_paid row (q_node ts) h.1 x (q_paid row ts h.0 h.1 c.0 (labels_paid row ts h.0 c.1 h.2) h.3) h.4

  pub labels_paid : (row : List ℕ) (ts : Forest) (ps : List Label) → HaveArities ts → AreLabels row ts ps → ArePaid row ts ps
  labels_paid row no_tree [] c h = tt
  labels_paid row no_tree (x ∷ ps) c h = absurd h
  labels_paid row (tree_and t ts) [] c h = absurd h
  labels_paid row (tree_and t ts) (x ∷ ps) c h = (label_paid row t x c.0 h.0, labels_paid row ts ps c.1 h.1)
