-- Trees of which each is empty or full, the full ones side by side, and maybe a partial one at each end of these: their
-- labels, and what Q1, Q2 or Q3 makes of a Q-node over them.
use Rattle.std.proofs.Common.{ℕ, ◌≤◌, List, [], ◌∷◌, ◌++◌, map, length, Some, None, refl, arith}
use Rattle.column_order.specs.Orders.{occurs}
use Rattle.pq_tree.specs.Outline.{Outline, Forest, q_node}
use Rattle.pq_tree.specs.Forests.{forest}
use Rattle.tree_theory.specs.Templates.{Partial, Label, empty_label, full_label, partial_label, q3, none_sorted, to_empty, to_full, AreAllFull, AreAllEmpty, IsTail, tail_empty, tail_partial, tail_more, IsTwoSidedRun, span_tail, span_partial, span_more}
use Rattle.tree_theory.specs.Chosen.{IsRootOfQ}
use Rattle.tree_theory.specs.Reduced.{IsLabel, AreLabels}
use Rattle.tree_theory.proofs.RootTemplates.{root_q_is}
use Rattle.arena_model.proofs.Lists.{occurs_here}

-- the trees of these nodes
abbrev pub trees_at : (ℕ → Outline) → List ℕ → Forest
trees_at F ks = forest (map F ks)

-- this label for each of the nodes
abbrev pub labels_for : Label → List ℕ → List Label
labels_for x ks = map (λ _. x) ks

-- empty labels for us, full ones for ks, empty ones for vs
abbrev pub block_labels : List ℕ → List ℕ → List ℕ → List Label
block_labels us ks vs = labels_for empty_label us ++ (labels_for full_label ks ++ labels_for empty_label vs)

pub labels_each : (row : List ℕ) (F : ℕ → Outline) (x : Label) (ks : List ℕ) → ((k : ℕ) → 1 ≤ occurs ks k → IsLabel row (F k) x) → AreLabels row (trees_at F ks) (labels_for x ks)
labels_each row F x [] of = tt
labels_each row F x (k ∷ ks) of = (of k (occurs_here k ks), labels_each row F x ks (λ j o. of j (omega arith)))

pub labels_then : (row : List ℕ) (F : ℕ → Outline) (x : Label) (ks ws : List ℕ) (qs : List Label) → ((k : ℕ) → 1 ≤ occurs ks k → IsLabel row (F k) x) → AreLabels row (trees_at F ws) qs →
    AreLabels row (trees_at F (ks ++ ws)) (labels_for x ks ++ qs)
labels_then row F x [] ws qs of rest = rest
labels_then row F x (k ∷ ks) ws qs of rest = (of k (occurs_here k ks), labels_then row F x ks ws qs (λ j o. of j (omega arith)) rest)

pub all_full_for : (F : ℕ → Outline) (ks : List ℕ) → AreAllFull (trees_at F ks) (labels_for full_label ks)
all_full_for F [] = none_sorted
all_full_for F (k ∷ ks) = to_full (all_full_for F ks)

all_empty_for : (F : ℕ → Outline) (vs : List ℕ) → AreAllEmpty (trees_at F vs) (labels_for empty_label vs)
all_empty_for F [] = none_sorted
all_empty_for F (v ∷ vs) = to_empty (all_empty_for F vs)

tail_for : (F : ℕ → Outline) (ks vs : List ℕ) → IsTail (trees_at F (ks ++ vs)) (labels_for full_label ks ++ labels_for empty_label vs) (trees_at F ks) None (trees_at F vs)
tail_for F [] vs = tail_empty (all_empty_for F vs)
tail_for F (k ∷ ks) vs = tail_more (tail_for F ks vs)

span_for : (F : ℕ → Outline) (us ks vs : List ℕ) → IsTwoSidedRun (trees_at F (us ++ (ks ++ vs))) (block_labels us ks vs) (trees_at F us) None (trees_at F ks) None (trees_at F vs)
span_for F [] ks vs = span_tail (tail_for F ks vs)
span_for F (u ∷ us) ks vs = span_more (span_for F us ks vs)

-- such a Q-node stays as it is
pub block_made : (F : ℕ → Outline) (us ks vs : List ℕ) → IsRootOfQ (trees_at F (us ++ (ks ++ vs))) (block_labels us ks vs) (q_node (trees_at F (us ++ (ks ++ vs))))
block_made F us ks vs = root_q_is [] [] (trees_at F ks) (trees_at F us) (trees_at F vs) (trees_at F (us ++ (ks ++ vs))) (block_labels us ks vs) (q_node (trees_at F (us ++ (ks ++ vs)))) (span_for F us ks vs) refl

-- empty labels for us, a partial one, full ones for ks, empty ones for vs
abbrev pub front_labels : Partial → List ℕ → List ℕ → List ℕ → List Label
front_labels h us ks vs = labels_for empty_label us ++ (partial_label h ∷ (labels_for full_label ks ++ labels_for empty_label vs))

span_front : (F : ℕ → Outline) (h : Partial) (us : List ℕ) (n : ℕ) (ks vs : List ℕ) →
    IsTwoSidedRun (trees_at F (us ++ (n ∷ (ks ++ vs)))) (front_labels h us ks vs) (trees_at F us) (Some h) (trees_at F ks) None (trees_at F vs)
span_front F h [] n ks vs = span_partial (tail_for F ks vs)
span_front F h (u ∷ us) n ks vs = span_more (span_front F h us n ks vs)

-- the partial tree before the full ones opens towards them
pub front_made : (F : ℕ → Outline) (h : Partial) (us : List ℕ) (n : ℕ) (ks vs : List ℕ) → 1 ≤ length ks →
    IsRootOfQ (trees_at F (us ++ (n ∷ (ks ++ vs)))) (front_labels h us ks vs) (q_node (q3 (trees_at F us) (Some h) (trees_at F ks) None (trees_at F vs)))
front_made F h us n [] vs l = absurd (omega arith)
front_made F h us n (k ∷ ks) vs l =
    root_q_is (h ∷ []) [] (trees_at F (k ∷ ks)) (trees_at F us) (trees_at F vs) (trees_at F (us ++ (n ∷ (k ∷ (ks ++ vs))))) (front_labels h us (k ∷ ks) vs)
    (q_node (q3 (trees_at F us) (Some h) (trees_at F (k ∷ ks)) None (trees_at F vs))) (span_front F h us n (k ∷ ks) vs) refl

-- empty labels for us, full ones for ks, a partial one, empty ones for vs
abbrev pub rear_labels : Partial → List ℕ → List ℕ → List ℕ → List Label
rear_labels h us ks vs = labels_for empty_label us ++ (labels_for full_label ks ++ (partial_label h ∷ labels_for empty_label vs))

tail_rear : (F : ℕ → Outline) (h : Partial) (ks : List ℕ) (n : ℕ) (vs : List ℕ) →
    IsTail (trees_at F (ks ++ (n ∷ vs))) (labels_for full_label ks ++ (partial_label h ∷ labels_for empty_label vs)) (trees_at F ks) (Some h) (trees_at F vs)
tail_rear F h [] n vs = tail_partial (all_empty_for F vs)
tail_rear F h (k ∷ ks) n vs = tail_more (tail_rear F h ks n vs)

span_rear : (F : ℕ → Outline) (h : Partial) (us ks : List ℕ) (n : ℕ) (vs : List ℕ) →
    IsTwoSidedRun (trees_at F (us ++ (ks ++ (n ∷ vs)))) (rear_labels h us ks vs) (trees_at F us) None (trees_at F ks) (Some h) (trees_at F vs)
span_rear F h [] ks n vs = span_tail (tail_rear F h ks n vs)
span_rear F h (u ∷ us) ks n vs = span_more (span_rear F h us ks n vs)

-- so the one behind them
pub rear_made : (F : ℕ → Outline) (h : Partial) (us ks : List ℕ) (n : ℕ) (vs : List ℕ) → 1 ≤ length ks →
    IsRootOfQ (trees_at F (us ++ (ks ++ (n ∷ vs)))) (rear_labels h us ks vs) (q_node (q3 (trees_at F us) None (trees_at F ks) (Some h) (trees_at F vs)))
rear_made F h us [] n vs l = absurd (omega arith)
rear_made F h us (k ∷ ks) n vs l =
    root_q_is [] (h ∷ []) (trees_at F (k ∷ ks)) (trees_at F us) (trees_at F vs) (trees_at F (us ++ (k ∷ (ks ++ (n ∷ vs))))) (rear_labels h us (k ∷ ks) vs)
    (q_node (q3 (trees_at F us) None (trees_at F (k ∷ ks)) (Some h) (trees_at F vs))) (span_rear F h us (k ∷ ks) n vs) refl

-- empty labels for us, a partial one, full ones for ks, a partial one, empty ones for vs
abbrev pub both_labels : Partial → Partial → List ℕ → List ℕ → List ℕ → List Label
both_labels h k us ks vs = labels_for empty_label us ++ (partial_label h ∷ (labels_for full_label ks ++ (partial_label k ∷ labels_for empty_label vs)))

span_both : (F : ℕ → Outline) (h k : Partial) (us : List ℕ) (n : ℕ) (ks : List ℕ) (o : ℕ) (vs : List ℕ) →
    IsTwoSidedRun (trees_at F (us ++ (n ∷ (ks ++ (o ∷ vs))))) (both_labels h k us ks vs) (trees_at F us) (Some h) (trees_at F ks) (Some k) (trees_at F vs)
span_both F h k [] n ks o vs = span_partial (tail_rear F k ks o vs)
span_both F h k (u ∷ us) n ks o vs = span_more (span_both F h k us n ks o vs)

-- so two, one before them and one behind them
pub both_made : (F : ℕ → Outline) (h k : Partial) (us : List ℕ) (n : ℕ) (ks : List ℕ) (o : ℕ) (vs : List ℕ) →
    IsRootOfQ (trees_at F (us ++ (n ∷ (ks ++ (o ∷ vs))))) (both_labels h k us ks vs) (q_node (q3 (trees_at F us) (Some h) (trees_at F ks) (Some k) (trees_at F vs)))
both_made F h k us n ks o vs =
    root_q_is (h ∷ []) (k ∷ []) (trees_at F ks) (trees_at F us) (trees_at F vs) (trees_at F (us ++ (n ∷ (ks ++ (o ∷ vs))))) (both_labels h k us ks vs)
    (q_node (q3 (trees_at F us) (Some h) (trees_at F ks) (Some k) (trees_at F vs))) (span_both F h k us n ks o vs) refl
