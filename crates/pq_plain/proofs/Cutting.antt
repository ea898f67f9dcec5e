-- The children of a Q-node cut as a run or a span, and what a template then makes of the node.
use Rattle.std.proofs.Common.{◌≡◌, ◌∙◌, ◌≤◌, List, [], ◌∷◌, reverse, length, Option, Some, None, sym, ap, inl, inr, arith}
use Rattle.pq_tree.specs.Outline.{Outline, Forest, no_tree, tree_and}
use Rattle.pq_tree.specs.Forests.{forest, back}
use Rattle.pq_tree.proofs.Forests.{count_forest}
use Rattle.tree_theory.specs.Templates.{Partial, Label, IsRun, run_full, run_partial, run_more}
use Rattle.tree_theory.specs.Chosen.{IsLabelOfQ, q_empty, by_q1, by_q2}
use Rattle.tree_theory.specs.Labels.{partials, first_of}
use Rattle.pq_plain.specs.Cuts.{run_label, IsRunCut, IsSpanCut}
use Rattle.pq_plain.specs.declared.label.Run.{Run as RunPlaces}
use Rattle.pq_plain.specs.declared.at_root.Span.{Span as Places}
use Rattle.tree_theory.proofs.Computed.{run_of, span_of, at_q}
use Rattle.pq_plain.proofs.Places.{run_seen, span_seen}
use Rattle.tree_theory.proofs.NodeTemplates.{RunLabel, run_is_full, run_is_empty, run_is_q2, some_inj, sort, run_is}
use Rattle.tree_theory.proofs.NoTemplate.{sorted_is, run_there, span_there}
use Rattle.tree_theory.proofs.Patterns.{run_all_full, run_all_empty, run_not_full, partial_not_full, run_not_empty, partial_not_empty}
use Rattle.tree_theory.proofs.QPatterns.{empty_run}
use Rattle.tree_theory.proofs.RootTemplates.{span_is}

-- a run has at most one partial
pub run_few : {ts es fs : Forest} {ps : List Label} {h : Option Partial} → IsRun ts ps es h fs → length (partials ps) ≤ 1
run_few (run_full s) = omega (arith, ap length (sorted_is s).2)
run_few (run_partial s) = omega (arith, ap length (sorted_is s).2)
run_few (run_more r) = run_few r

-- its label
pub run_gives : {ts es fs : Forest} {ps : List Label} {h : Option Partial} → IsRun ts ps es h fs → RunLabel ts ps (run_label es h fs)
run_gives {es = no_tree} {h = None} r = run_is_full (run_all_full r)
run_gives {es = tree_and e es} {fs = no_tree} {h = None} r = run_is_empty (run_all_empty r)
run_gives {es = tree_and e es} {fs = tree_and f fs} {h = None} r = run_is_q2 (tree_and e es) (tree_and f fs) None r (run_not_full e r) (run_not_empty f r)
run_gives {es = es} {fs = fs} {h = Some h} r = run_is_q2 es fs (Some h) r (partial_not_full r) (partial_not_empty r)

-- the label of a run as the program computes it
pub run_label_is : (hs : List Partial) (es fs : Forest) (l : Label) → at_q hs es fs ≡ Some l → l ≡ run_label es (first_of hs) fs
run_label_is [] no_tree fs l e = sym (some_inj e)
run_label_is [] (tree_and e es) no_tree l k = sym (some_inj k)
run_label_is [] (tree_and e es) (tree_and f fs) l k = sym (some_inj k)
run_label_is (h ∷ hs) es fs l e = sym (some_inj e)

-- children that are a run from neither end
pub no_label_from_ends : (ts : Forest) (ps : List Label) → ((es : Forest) (h : Option Partial) (fs : Forest) → IsRun ts ps es h fs → ⊥) →
    ((es : Forest) (h : Option Partial) (fs : Forest) → IsRun (back ts) (reverse ps) es h fs → ⊥) → (x : Label) → IsLabelOfQ ts ps x → ⊥
no_label_from_ends ts ps front rear x (q_empty s) = front ts None no_tree (empty_run s)
no_label_from_ends ts ps front rear x (by_q1 s) = front no_tree None ts (run_full s)
no_label_from_ends ts ps front rear x (by_q2 h q) = elim q.pattern [ inl r ↦ front q.es q.h q.fs r | inr r ↦ rear q.es q.h q.fs r ]

-- a run and a span as they are computed
pub run_cut : (ts : List Outline) (ps : List Label) (r : RunPlaces) → length ps ≡ length ts → run_of (forest ts) ps ≡ Some (run_seen ts ps r) → IsRunCut ts ps (Some r)
run_cut ts ps r n e = run_is (forest ts) ps (run_seen ts ps r) (sort (forest ts) ps (n ∙ sym (count_forest ts))) e

pub no_run_cut : (ts : List Outline) (ps : List Label) → run_of (forest ts) ps ≡ None → IsRunCut ts ps None
no_run_cut ts ps e = λ es h fs r. run_there r e

pub span_cut : (ts : List Outline) (ps : List Label) (s : Places) → length ps ≡ length ts → span_of (forest ts) ps ≡ Some (span_seen ts ps s) → IsSpanCut ts ps (Some s)
span_cut ts ps s n e = span_is (forest ts) ps (span_seen ts ps s) (sort (forest ts) ps (n ∙ sym (count_forest ts))) e

pub no_span_cut : (ts : List Outline) (ps : List Label) → span_of (forest ts) ps ≡ None → IsSpanCut ts ps None
no_span_cut ts ps e = λ es fs gs h k s. span_there s e
