-- The template at the pertinent root, by the labels of its children.
use Rattle.std.proofs.Common.{◌≡◌, ◌∙◌, List, length, map, Option, Some, None, sym, ap, subst, inl, inr}
use Rattle.std.proofs.lemmas.List.{length-map}
use Rattle.pq_tree.specs.Outline.{Outline, Forest, q_node, no_tree}
use Rattle.pq_tree.specs.Proper.{outline_of}
use Rattle.pq_tree.specs.Forests.{forest, back}
use Rattle.pq_tree.specs.declared.Tree.{Tree}
use Rattle.tree_theory.specs.Templates.{Partial, Label, IsTwoSidedRun, run_full}
use Rattle.tree_theory.specs.Chosen.{IsRootOfQ, root_q1, root_q2, root_q3}
use Rattle.pq_plain.specs.Cuts.{IsSpanCut}
use Rattle.tree_theory.specs.Outcomes.{FindsAny}
use Rattle.tree_theory.specs.Outcomes.{HasRootLabels}
use Rattle.pq_plain.specs.Seen.{outlines, label_seen}
use Rattle.pq_plain.specs.declared.label.Label.{Label as Marked}
use Rattle.pq_plain.specs.declared.at_root.Span.{Span as Places}
use Rattle.tree_theory.proofs.Computed.{Span, at_span}
use Rattle.pq_plain.proofs.Places.{span_seen}
use Rattle.tree_theory.proofs.Meaning.{span_parts}
use Rattle.tree_theory.proofs.NoOrder.{root_q_failed}
use Rattle.tree_theory.proofs.QPatterns.{run_span, rear_span}
use Rattle.tree_theory.proofs.RootTemplates.{root_q_is}
use Rattle.tree_theory.proofs.Sound.{labels_sound, lowest_root_q}

-- cut as a span
q_of_span : (xs : List Outline) (ps : List Label) (s : Places) → IsSpanCut xs ps (Some s) → HasRootLabels (q_node (forest xs)) ps → (o : Option Outline) →
    o ≡ at_span (forest xs) (span_seen xs ps s) → FindsAny (IsRootOfQ (forest xs) ps) o
q_of_span xs ps s cut r (Some u) e =
    let w : Span = span_seen xs ps s in
    root_q_is w.left w.tail.right w.tail.middle w.before w.tail.behind (forest xs) ps u cut (sym e)
q_of_span xs ps s cut r None e =
    let w : Span = span_seen xs ps s in
    λ u k. root_q_failed r.0 w.left w.tail.right w.tail.middle w.before w.tail.behind (forest xs)
    (span_parts r.0 cut (labels_sound r.0 (forest xs) ps r.1.0.1 r.1.1 r.3)) (lowest_root_q r.0 (forest xs) r.2) (sym e)

-- no span
no_q : (ts : Forest) (ps : List Label) → ((es fs gs : Forest) (h k : Option Partial) → IsTwoSidedRun ts ps es h fs k gs → ⊥) → (u : Outline) → IsRootOfQ ts ps u → ⊥
no_q ts ps none u (root_q1 s) = none no_tree ts no_tree None None (run_span (run_full s))
no_q ts ps none u (root_q2 x v q s) =
    elim q.pattern [ inl r ↦ none q.es q.fs no_tree q.h None (run_span r) | inr r ↦ none no_tree (back q.fs) (back q.es) None q.h (rear_span r) ]
no_q ts ps none u (root_q3 v q) = none q.es q.fs q.gs q.h q.k q.pattern

module _ (ts : List Tree) (ls ms : List Marked) (size : length ls ≡ length ts) (same : ms ≡ ls) where
  long : length (map outline_of ts) ≡ length ms
  long = length-map ts outline_of ∙ sym size ∙ ap length (sym same)

  pub q_chosen : (s : Places) → ((xs : List Outline) → length xs ≡ length ms → IsSpanCut xs (map label_seen ms) (Some s)) → HasRootLabels (q_node (outlines ts)) (map label_seen ls) → (o : Option Outline) →
      o ≡ at_span (outlines ts) (span_seen (map outline_of ts) (map label_seen ls) s) → FindsAny (IsRootOfQ (outlines ts) (map label_seen ls)) o
  q_chosen s cut r o e =
      q_of_span (map outline_of ts) (map label_seen ls) s (subst (λ l. IsSpanCut (map outline_of ts) (map label_seen l) (Some s)) same (cut (map outline_of ts) long)) r o e

  pub q_unfit : ((xs : List Outline) → length xs ≡ length ms → IsSpanCut xs (map label_seen ms) None) → FindsAny (IsRootOfQ (outlines ts) (map label_seen ls)) None
  q_unfit cut = no_q (outlines ts) (map label_seen ls) (subst (λ l. IsSpanCut (map outline_of ts) (map label_seen l) None) same (cut (map outline_of ts) long))
