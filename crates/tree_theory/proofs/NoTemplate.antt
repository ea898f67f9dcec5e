-- A node gets no label, and the pertinent root is not replaced, only where the pattern of no template stands there.
use Rattle.std.proofs.Common.{◌≡◌, ◌∙◌, ◌≤◌, ℕ, List, [], ◌∷◌, reverse, length, Option, None, IsTrue, refl, sym, ap, ap₂, inl, inr, arith, option_and_then}
use Rattle.std.proofs.lemmas.Bool.{both_ways}
use Rattle.pq_tree.specs.Outline.{Outline, Forest, no_tree, tree_and}
use Rattle.pq_tree.specs.Forests.{count, back}
use Rattle.tree_theory.specs.Templates.{Partial, Label, IsSorted, none_sorted, to_empty, to_full, to_partial, IsRun, run_full, run_partial, run_more, IsTail, tail_empty, tail_partial, tail_more, IsTwoSidedRun, span_tail, span_partial, span_more}
use Rattle.tree_theory.specs.Chosen.{IsLabelOfP, p_empty, by_p1, by_p3, by_p5, IsLabelOfQ, q_empty, by_q1, by_q2, IsRootOfP, root_p1, root_p2, root_p4, root_p6, IsRootOfQ, root_q1, root_q2, root_q3}
use Rattle.tree_theory.specs.Labels.{empty_trees, full_trees, partials}
use Rattle.tree_theory.proofs.Computed.{at_p, at_run, run_of, all_full, one_more, root_p, all_empty, full_more, before_more, begins, tail_of, span_of, at_span, p_outcome, q_outcome, p_label, q_label}
use Rattle.tree_theory.proofs.Meaning.{AreLabelled, IsRoot, span_parts}
use Rattle.tree_theory.proofs.QPatterns.{empty_run, run_span, rear_span}
use Rattle.tree_theory.proofs.NodeTemplates.{sort}
use Rattle.tree_theory.proofs.RootTemplates.{span_is}
use Rattle.tree_theory.proofs.Failed.{and_then_none, after_none, first_none, cond_none, no_run}
use Rattle.tree_theory.proofs.Arities.{p4_full}
use Rattle.tree_theory.proofs.NoOrder.{root_q_failed}

-- the children are sorted in one way
pub sorted_is : {ts es fs : Forest} {ps : List Label} {hs : List Partial} → IsSorted ts ps es fs hs → (es ≡ empty_trees ts ps) × (fs ≡ full_trees ts ps) × (hs ≡ partials ps)
sorted_is none_sorted = (refl, refl, refl)
sorted_is (to_empty {t = t} s) = let w = sorted_is s in (ap (tree_and t) w.0, w.1, w.2)
sorted_is (to_full {t = t} s) = let w = sorted_is s in (w.0, ap (tree_and t) w.1, w.2)
sorted_is (to_partial {h = h} s) = let w = sorted_is s in (w.0, w.1, ap (λ hs. h ∷ hs) w.2)

-- P-nodes below the pertinent root
few : (hs : List Partial) (es fs : Forest) → length hs ≤ 1 → at_p hs es fs ≡ None → ⊥
few [] no_tree fs n e = cc
few [] (tree_and t es) no_tree n e = cc
few [] (tree_and t es) (tree_and f fs) n e = cc
few (h ∷ []) es fs n e = cc
few (h ∷ k ∷ hs) es fs n e = omega (arith, n)

label_few : (ts : Forest) (ps : List Label) (x : Label) → IsLabelOfP ts ps x → length (partials ps) ≤ 1
label_few ts ps x (p_empty s) = omega (arith, ap length (sorted_is s).2)
label_few ts ps x (by_p1 s) = omega (arith, ap length (sorted_is s).2)
label_few ts ps x (by_p3 h s) = omega (arith, ap length (sorted_is s.pattern).2)
label_few ts ps x (by_p5 h s) = omega (arith, ap length (sorted_is s.pattern).2)

pub p_label_none : (ts : Forest) (ps : List Label) (x : Label) → p_label ts ps ≡ None → IsLabelOfP ts ps x → ⊥
p_label_none ts ps x e k = few (partials ps) (empty_trees ts ps) (full_trees ts ps) (label_few ts ps x k) e

-- a run is found
full_all : {ts fs : Forest} {ps : List Label} → IsSorted ts ps no_tree fs [] → IsTrue (all_full ps)
full_all none_sorted = refl
full_all (to_full s) = full_all s

pub run_there : {ts es fs : Forest} {ps : List Label} {h : Option Partial} → IsRun ts ps es h fs → run_of ts ps ≡ None → ⊥
run_there (run_full s) e = full_there s e
  where
    full_there : {ts fs : Forest} {ps : List Label} → IsSorted ts ps no_tree fs [] → run_of ts ps ≡ None → ⊥
    full_there none_sorted e = cc
    full_there (to_full {t = t} {ts = ts} {ps = ps} s) e = both_ways (all_full ps) (cond_none (all_full ps) (record { before = no_tree; middle = []; behind = tree_and t ts }) e) (full_all s)
run_there (run_partial {t = t} {ts = ts} {ps = ps} {h = h} s) e = both_ways (all_full ps) (cond_none (all_full ps) (record { before = no_tree; middle = h ∷ []; behind = ts }) e) (full_all s)
run_there (run_more {t = t} {ts = ts} {ps = ps} r) e =
    run_there r (after_none (one_more t) (run_of ts ps) e)

pub q_label_none : (ts : Forest) (ps : List Label) (x : Label) → q_label ts ps ≡ None → IsLabelOfQ ts ps x → ⊥
q_label_none ts ps x e k = neither k
  where
    both : (option_and_then at_run (run_of ts ps) ≡ None) × (option_and_then at_run (run_of (back ts) (reverse ps)) ≡ None)
    both = first_none (option_and_then at_run (run_of ts ps)) (option_and_then at_run (run_of (back ts) (reverse ps))) e

    neither : {y : Label} → IsLabelOfQ ts ps y → ⊥
    neither (q_empty s) = run_there (empty_run s) (no_run (run_of ts ps) both.0)
    neither (by_q1 s) = run_there (run_full s) (no_run (run_of ts ps) both.0)
    neither (by_q2 h q) =
        elim q.pattern [ inl r ↦ run_there r (no_run (run_of ts ps) both.0) | inr r ↦ run_there r (no_run (run_of (back ts) (reverse ps)) both.1) ]

-- a span is found
empty_all : {ts es : Forest} {ps : List Label} → IsSorted ts ps es no_tree [] → IsTrue (all_empty ps)
empty_all none_sorted = refl
empty_all (to_empty s) = empty_all s

tail_there : {ts fs gs : Forest} {ps : List Label} {k : Option Partial} → IsTail ts ps fs k gs → tail_of ts ps ≡ None → ⊥
tail_there (tail_empty s) e = empty_there s e
  where
    empty_there : {ts es : Forest} {ps : List Label} → IsSorted ts ps es no_tree [] → tail_of ts ps ≡ None → ⊥
    empty_there none_sorted e = cc
    empty_there (to_empty {t = t} {ts = ts} {ps = ps} s) e =
        both_ways (all_empty ps) (cond_none (all_empty ps) (record { middle = no_tree; right = []; behind = tree_and t ts }) e) (empty_all s)
tail_there (tail_partial {t = t} {ts = ts} {ps = ps} {k = k} s) e =
    both_ways (all_empty ps) (cond_none (all_empty ps) (record { middle = no_tree; right = k ∷ []; behind = ts }) e) (empty_all s)
tail_there (tail_more {t = t} {ts = ts} {ps = ps} r) e =
    tail_there r (after_none (full_more t) (tail_of ts ps) e)

pub span_there : {ts es fs gs : Forest} {ps : List Label} {h k : Option Partial} → IsTwoSidedRun ts ps es h fs k gs → span_of ts ps ≡ None → ⊥
span_there (span_tail r) e = tail_span r e
  where
    empty_span : {ts es : Forest} {ps : List Label} → IsSorted ts ps es no_tree [] → span_of ts ps ≡ None → ⊥
    empty_span none_sorted e = cc
    empty_span (to_empty {t = t} {ts = ts} {ps = ps} s) e =
        empty_span s (after_none (before_more t) (span_of ts ps) e)

    tail_span : {ts fs gs : Forest} {ps : List Label} {k : Option Partial} → IsTail ts ps fs k gs → span_of ts ps ≡ None → ⊥
    tail_span (tail_empty s) e = empty_span s e
    tail_span (tail_partial {t = t} {ts = ts} {ps = ps} {k = k} s) e =
        tail_there (tail_empty s) (after_none (begins (k ∷ [])) (tail_of ts ps) e)
    tail_span (tail_more {t = t} {ts = ts} {ps = ps} r) e =
        tail_there r (after_none (λ q. begins [] (full_more t q)) (tail_of ts ps) e)
span_there (span_partial {t = t} {ts = ts} {ps = ps} {h = h} r) e =
    tail_there r (after_none (begins (h ∷ [])) (tail_of ts ps) e)
span_there (span_more {t = t} {ts = ts} {ps = ps} r) e =
    span_there r (after_none (before_more t) (span_of ts ps) e)

-- The pertinent root.
module _ (row : List ℕ) (ts : Forest) (ps : List Label) (root : IsRoot row ts) (right : AreLabelled row ts ps) (long : length ps ≡ count ts) where
  same_root : {es fs : Forest} {hs : List Partial} → IsSorted ts ps es fs hs → root_p (partials ps) (empty_trees ts ps) (full_trees ts ps) ts ≡ root_p hs es fs ts
  same_root {fs = fs} s =
      let w = sorted_is s in
      sym (ap₂ (λ x y. root_p x y fs ts) w.2 w.0 ∙ ap (λ z. root_p (partials ps) (empty_trees ts ps) z ts) w.1)

  four_there : (h : Partial) (es fs : Forest) → 1 ≤ count fs → root_p (h ∷ []) es fs ts ≡ None → ⊥
  four_there h es no_tree n e = omega (arith, n)
  four_there h es (tree_and f fs) n e = cc

  root_there : (u : Outline) → IsRootOfP ts ps u → root_p (partials ps) (empty_trees ts ps) (full_trees ts ps) ts ≡ None → ⊥
  root_there u (root_p1 s) e = let k : root_p [] no_tree ts ts ≡ None = sym (same_root s) ∙ e in cc
  root_there u (root_p2 v x) e = let k : root_p [] (tree_and x.e x.es) (tree_and x.f x.fs) ts ≡ None = sym (same_root x.pattern) ∙ e in cc
  root_there u (root_p4 v x) e = four_there x.h x.es x.fs (p4_full row ts ps u right root x) (sym (same_root x.pattern) ∙ e)
  root_there u (root_p6 v x) e = let k : root_p (x.h ∷ x.k ∷ []) x.es x.fs ts ≡ None = sym (same_root x.pattern) ∙ e in cc

  pub p_outcome_none : (u : Outline) → p_outcome ts ps ≡ None → IsRootOfP ts ps u → ⊥
  p_outcome_none u e k = root_there u k e

  pub root_spans : (u : Outline) → IsRootOfQ ts ps u → span_of ts ps ≡ None → ⊥
  root_spans u (root_q1 s) e = span_there (run_span (run_full s)) e
  root_spans u (root_q2 x v q s) e = elim q.pattern [ inl r ↦ span_there (run_span r) e | inr r ↦ span_there {ts = ts} {ps = ps} (rear_span r) e ]
  root_spans u (root_q3 v q) e = span_there q.pattern e

  pub q_outcome_none : (u : Outline) → q_outcome ts ps ≡ None → IsRootOfQ ts ps u → ⊥
  q_outcome_none u e k =
      elim (and_then_none (at_span ts) (span_of ts ps) e) [
        | inl n ↦ root_spans u k n
        | inr n ↦
            root_q_failed row n.0.left n.0.tail.right n.0.tail.middle n.0.before n.0.tail.behind ts
            (span_parts row (span_is ts ps n.0 (sort ts ps long) n.1) right) root n.2
      ]
