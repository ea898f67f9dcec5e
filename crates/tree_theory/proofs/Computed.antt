-- What the templates make of a node by the labels of its children, computed.
use Rattle.std.proofs.Common.{Bool, true, false, cond, List, [], ◌∷◌, reverse, Option, Some, None, option_and_then}
use Rattle.pq_tree.specs.Outline.{Outline, Forest, q_node, no_tree, tree_and}
use Rattle.pq_tree.specs.Forests.{back}
use Rattle.tree_theory.specs.Templates.{p1, p2, p3, p4, p5, p6, q1, q2, q3}
use Rattle.tree_theory.specs.Labels.{Partial, Label, empty_label, full_label, partial_label, partials, empty_trees, full_trees}

-- a P-node with these partial children, these empty and these full ones: P1, an empty node, P3 or P5; else no template fits
abbrev pub at_p : List Partial → Forest → Forest → Option Label
at_p [] no_tree fs = Some full_label
at_p [] (tree_and e es) no_tree = Some empty_label
at_p [] (tree_and e es) (tree_and f fs) = Some (partial_label (p3 (tree_and e es) (tree_and f fs)))
at_p (h ∷ []) es fs = Some (partial_label (p5 es h fs))
at_p (h ∷ k ∷ hs) es fs = None

-- a Q-node read from one end: empty children, at most one partial, full children
pub record Run : Type 0 where
  pub before : Forest
  pub middle : List Partial
  pub behind : Forest

-- all labels are full
abbrev pub all_full : List Label → Bool
all_full [] = true
all_full (empty_label ∷ ps) = false
all_full (full_label ∷ ps) = all_full ps
all_full (partial_label h ∷ ps) = false

-- the run with one more empty child at its front
abbrev pub one_more : Outline → Run → Run
one_more t r = record { before = tree_and t r.before; middle = r.middle; behind = r.behind }

-- the trees as such a run, where they are one by their labels
abbrev pub run_of : Forest → List Label → Option Run
run_of no_tree ps = Some (record { before = no_tree; middle = []; behind = no_tree })
run_of (tree_and t ts) [] = None
run_of (tree_and t ts) (empty_label ∷ ps) = option_and_then (λ r. Some (one_more t r)) (run_of ts ps)
run_of (tree_and t ts) (full_label ∷ ps) = cond (all_full ps) (Some (record { before = no_tree; middle = []; behind = tree_and t ts })) None
run_of (tree_and t ts) (partial_label h ∷ ps) = cond (all_full ps) (Some (record { before = no_tree; middle = h ∷ []; behind = ts })) None

-- a Q-node that is such a run: Q1, an empty node or Q2
abbrev pub at_q : List Partial → Forest → Forest → Option Label
at_q [] no_tree fs = Some full_label
at_q [] (tree_and e es) no_tree = Some empty_label
at_q [] (tree_and e es) (tree_and f fs) = Some (partial_label (q2 (tree_and e es) None (tree_and f fs)))
at_q (h ∷ hs) es fs = Some (partial_label (q2 es (Some h) fs))

abbrev pub at_run : Run → Option Label
at_run r = at_q r.middle r.before r.behind

-- the first answer that there is
abbrev pub first_some : {X : Type 0} → Option X → Option X → Option X
first_some (Some x) o = Some x
first_some None o = o

-- the P-node over ts at the pertinent root, with these partial children, these empty and these full ones: P1, P2, P4 or P6
abbrev pub root_p : List Partial → Forest → Forest → Forest → Option Outline
root_p [] no_tree fs ts = Some (p1 ts)
root_p [] (tree_and e es) no_tree ts = None
root_p [] (tree_and e es) (tree_and f fs) ts = Some (p2 (tree_and e es) (tree_and f fs))
root_p (h ∷ []) es no_tree ts = None
root_p (h ∷ []) es (tree_and f fs) ts = Some (p4 es h (tree_and f fs))
root_p (h ∷ k ∷ []) es fs ts = Some (p6 es h fs k)
root_p (h ∷ k ∷ l ∷ hs) es fs ts = None

-- the rest of a Q-node at the pertinent root, from its first full child on: full children, at most one partial, empty ones
pub record Tail : Type 0 where
  pub middle : Forest
  pub right : List Partial
  pub behind : Forest

-- a Q-node at the pertinent root: empty children, at most one partial, and such a rest
pub record Span : Type 0 where
  pub before : Forest
  pub left : List Partial
  pub tail : Tail

-- all labels are empty
abbrev pub all_empty : List Label → Bool
all_empty [] = true
all_empty (empty_label ∷ ps) = all_empty ps
all_empty (full_label ∷ ps) = false
all_empty (partial_label h ∷ ps) = false

-- with one more full child at the front
abbrev pub full_more : Outline → Tail → Tail
full_more t r = record { middle = tree_and t r.middle; right = r.right; behind = r.behind }

-- with one more empty child at the front
abbrev pub before_more : Outline → Span → Span
before_more t r = record { before = tree_and t r.before; left = r.left; tail = r.tail }

-- the trees as such a rest, where they are one by their labels
abbrev pub tail_of : Forest → List Label → Option Tail
tail_of no_tree ps = Some (record { middle = no_tree; right = []; behind = no_tree })
tail_of (tree_and t ts) [] = None
tail_of (tree_and t ts) (empty_label ∷ ps) = cond (all_empty ps) (Some (record { middle = no_tree; right = []; behind = tree_and t ts })) None
tail_of (tree_and t ts) (full_label ∷ ps) = option_and_then (λ r. Some (full_more t r)) (tail_of ts ps)
tail_of (tree_and t ts) (partial_label h ∷ ps) = cond (all_empty ps) (Some (record { middle = no_tree; right = h ∷ []; behind = ts })) None

-- a Q-node that begins with at most one partial child
abbrev pub begins : List Partial → Tail → Span
begins hs r = record { before = no_tree; left = hs; tail = r }

-- the children of a Q-node as a span, where they are one by their labels
abbrev pub span_of : Forest → List Label → Option Span
span_of no_tree ps = Some (begins [] (record { middle = no_tree; right = []; behind = no_tree }))
span_of (tree_and t ts) [] = None
span_of (tree_and t ts) (empty_label ∷ ps) = option_and_then (λ r. Some (before_more t r)) (span_of ts ps)
span_of (tree_and t ts) (full_label ∷ ps) = option_and_then (λ r. Some (begins [] (full_more t r))) (tail_of ts ps)
span_of (tree_and t ts) (partial_label h ∷ ps) = option_and_then (λ r. Some (begins (h ∷ []) r)) (tail_of ts ps)

-- The Q-node over ts at the pertinent root, with these partial children before and behind the full ones, and these empty
-- ones: Q1 and the other cases without a partial child, where it stays, or Q2 or Q3. A partial child alone would hold the
-- row.
abbrev pub root_q : List Partial → List Partial → Forest → Forest → Forest → Forest → Option Outline
root_q [] [] fs es gs ts = Some (q1 ts)
root_q (h ∷ hs) [] no_tree es gs ts = None
root_q (h ∷ hs) [] (tree_and f fs) es gs ts = Some (q_node (q3 es (Some h) (tree_and f fs) None gs))
root_q [] (k ∷ ks) no_tree es gs ts = None
root_q [] (k ∷ ks) (tree_and f fs) es gs ts = Some (q_node (q3 es None (tree_and f fs) (Some k) gs))
root_q (h ∷ hs) (k ∷ ks) fs es gs ts = Some (q_node (q3 es (Some h) fs (Some k) gs))

abbrev pub at_span : Forest → Span → Option Outline
at_span ts r = root_q r.left r.tail.right r.tail.middle r.before r.tail.behind ts

-- the template at a node, by the labels of its children
abbrev pub p_outcome : Forest → List Label → Option Outline
p_outcome ts ps = root_p (partials ps) (empty_trees ts ps) (full_trees ts ps) ts

abbrev pub q_outcome : Forest → List Label → Option Outline
q_outcome ts ps = option_and_then (at_span ts) (span_of ts ps)

-- what a P-node below the pertinent root is labelled, by the labels of its children
abbrev pub p_label : Forest → List Label → Option Label
p_label ts ps = at_p (partials ps) (empty_trees ts ps) (full_trees ts ps)

-- what a Q-node below the pertinent root is labelled, by the labels of its children read from either end
abbrev pub q_label : Forest → List Label → Option Label
q_label ts ps = first_some (option_and_then at_run (run_of ts ps)) (option_and_then at_run (run_of (back ts) (reverse ps)))
