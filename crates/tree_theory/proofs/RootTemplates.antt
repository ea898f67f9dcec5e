-- What the program makes of the pertinent root is what a template gives, and it is bound where the old tree is and the row closed.
use Rattle.std.proofs.Common.{◌≡◌, ◌∙◌, ◌≤◌, ℕ, true, false, List, [], ◌∷◌, reverse, Option, Some, None, IsTrue, IsFalse, length, refl, sym, ap, subst, inl, inr}
use Rattle.std.proofs.lemmas.Bool.{both_ways, and_cases}
use Rattle.std.specs.List.{list_all}
use Rattle.column_order.specs.Orders.{has, occurs}
use Rattle.column_order.proofs.Lists.{has_head, has_tail}
use Rattle.pq_tree.specs.Outline.{Outline, Forest, p_node, q_node, no_tree, tree_and, leaves_of}
use Rattle.tree_theory.specs.Templates.{IsSorted, p1, q1, q2, q3, IsRun, none_sorted, to_empty, to_full, to_partial, AreAllEmpty, IsTail, tail_empty, tail_partial, tail_more, IsTwoSidedRun, span_tail, span_partial, span_more}
use Rattle.pq_tree.specs.Forests.{back, count}
use Rattle.tree_theory.specs.Labels.{Partial, Label, empty_label, empty_trees, full_trees, partials, first_of, full_label, partial_label}
use Rattle.tree_theory.proofs.Computed.{root_p, Tail, Span, all_empty, full_more, before_more, begins, tail_of, span_of, root_q, at_span, p_outcome, q_outcome}
use Rattle.tree_theory.proofs.AtRoot.{Rooted}
use Rattle.tree_theory.proofs.NodeTemplates.{some_inj, and_then, cond_some, sort}
use Rattle.tree_theory.proofs.Preserved.{full_rooted, p1_kept, p2_kept, p4_kept, p6_kept, q1_kept, q2_rooted, q3_kept}
use Rattle.tree_theory.specs.Chosen.{IsRootOfP, root_p1, root_p2, root_p4, root_p6, IsRootOfQ, root_q1, root_q2, root_q3}
use Rattle.tree_theory.proofs.Meaning.{AreLabelled, Misses, IsRoot}
use Rattle.tree_theory.proofs.Patterns.{as_all_full, run_all_full, sorted_back, span_plain, span_all_empty}
use Rattle.tree_theory.proofs.QPatterns.{HasAny, any_back, any_not_full, any_not_empty, span_run, span_back, span_not_q2, line_front, line_rear}

-- P1, P2, P4 and P6
root_p_is : (ts es fs : Forest) (ps : List Label) (hs : List Partial) (u : Outline) → IsSorted ts ps es fs hs → root_p hs es fs ts ≡ Some u → IsRootOfP ts ps u
root_p_is ts no_tree fs ps [] u s e = subst (IsRootOfP ts ps) (some_inj e) (root_p1 (as_all_full s))
root_p_is ts (tree_and t es) no_tree ps [] u s e = cc
root_p_is ts (tree_and t es) (tree_and f fs) ps [] u s e =
    root_p2 u (record { at = refl; e = t; es = es; f = f; fs = fs; pattern = s; becomes = sym (some_inj e) })
root_p_is ts es no_tree ps (h ∷ []) u s e = cc
root_p_is ts es (tree_and f fs) ps (h ∷ []) u s e = root_p4 u (record { at = refl; es = es; h = h; fs = tree_and f fs; pattern = s; becomes = sym (some_inj e) })
root_p_is ts es fs ps (h ∷ k ∷ []) u s e = root_p6 u (record { at = refl; es = es; h = h; fs = fs; k = k; pattern = s; becomes = sym (some_inj e) })
root_p_is ts es fs ps (h ∷ k ∷ l ∷ hs) u s e = cc

all_empty_is : {ts es fs : Forest} {hs : List Partial} (ps : List Label) → IsSorted ts ps es fs hs → IsTrue (all_empty ps) → AreAllEmpty ts ps
all_empty_is ps none_sorted e = none_sorted
all_empty_is ps (to_empty {ps = qs} s) e = to_empty (all_empty_is qs s e)
all_empty_is ps (to_full s) e = absurd (both_ways false refl e)
all_empty_is ps (to_partial s) e = absurd (both_ways false refl e)

-- what `tail_of` and `span_of` find is one
tail_is : {es fs : Forest} {hs : List Partial} (ts : Forest) (ps : List Label) (r : Tail) → IsSorted ts ps es fs hs → tail_of ts ps ≡ Some r → IsTail ts ps r.middle (first_of r.right) r.behind
tail_is ts ps r none_sorted e = subst (λ (x : Tail). IsTail no_tree [] x.middle (first_of x.right) x.behind) (some_inj e) (tail_empty none_sorted)
tail_is ts ps r (to_empty {t = t} {ts = us} {ps = qs} s) e =
    let w : IsTrue (all_empty qs) × (record { middle = no_tree; right = []; behind = tree_and t us } ≡ r) = cond_some (all_empty qs) (record { middle = no_tree; right = []; behind = tree_and t us }) r e in
    subst (λ (x : Tail). IsTail (tree_and t us) (empty_label ∷ qs) x.middle (first_of x.right) x.behind) w.1 (tail_empty (to_empty (all_empty_is qs s w.0)))
tail_is ts ps r (to_full {t = t} {ts = us} {ps = qs} s) e =
    let w : (x : Tail) × (tail_of us qs ≡ Some x) × (Some (full_more t x) ≡ Some r) = and_then (λ x. Some (full_more t x)) (tail_of us qs) r e in
    subst (λ (x : Tail). IsTail (tree_and t us) (full_label ∷ qs) x.middle (first_of x.right) x.behind) (some_inj w.2) (tail_more (tail_is us qs w.0 s w.1))
tail_is ts ps r (to_partial {t = t} {ts = us} {ps = qs} {h = h} s) e =
    let w : IsTrue (all_empty qs) × (record { middle = no_tree; right = h ∷ []; behind = us } ≡ r) = cond_some (all_empty qs) (record { middle = no_tree; right = h ∷ []; behind = us }) r e in
    subst (λ (x : Tail). IsTail (tree_and t us) (partial_label h ∷ qs) x.middle (first_of x.right) x.behind) w.1 (tail_partial (all_empty_is qs s w.0))

abbrev SpanIs : Forest → List Label → Span → Type 0
SpanIs ts ps r = IsTwoSidedRun ts ps r.before (first_of r.left) r.tail.middle (first_of r.tail.right) r.tail.behind

pub span_is : {es fs : Forest} {hs : List Partial} (ts : Forest) (ps : List Label) (r : Span) → IsSorted ts ps es fs hs → span_of ts ps ≡ Some r →
    IsTwoSidedRun ts ps r.before (first_of r.left) r.tail.middle (first_of r.tail.right) r.tail.behind
span_is ts ps r none_sorted e = subst (SpanIs no_tree []) (some_inj e) (span_tail (tail_empty none_sorted))
span_is ts ps r (to_empty {t = t} {ts = us} {ps = qs} s) e =
    let w : (x : Span) × (span_of us qs ≡ Some x) × (Some (before_more t x) ≡ Some r) = and_then (λ x. Some (before_more t x)) (span_of us qs) r e in
    subst (SpanIs (tree_and t us) (empty_label ∷ qs)) (some_inj w.2) (span_more (span_is us qs w.0 s w.1))
span_is ts ps r (to_full {t = t} {ts = us} {ps = qs} s) e =
    let w : (x : Tail) × (tail_of us qs ≡ Some x) × (Some (begins [] (full_more t x)) ≡ Some r) = and_then (λ x. Some (begins [] (full_more t x))) (tail_of us qs) r e in
    subst (SpanIs (tree_and t us) (full_label ∷ qs)) (some_inj w.2) (span_tail (tail_more (tail_is us qs w.0 s w.1)))
span_is ts ps r (to_partial {t = t} {ts = us} {ps = qs} {h = h} s) e =
    let w : (x : Tail) × (tail_of us qs ≡ Some x) × (Some (begins (h ∷ []) x) ≡ Some r) = and_then (λ x. Some (begins (h ∷ []) x)) (tail_of us qs) r e in
    subst (SpanIs (tree_and t us) (partial_label h ∷ qs)) (some_inj w.2) (span_partial (tail_is us qs w.0 s w.1))

module _ (ts : Forest) (ps : List Label) where
  -- nothing behind: Q1 or Q2; nothing before: Q2 from the other end
  front : (es fs : Forest) (h : Option Partial) → IsTwoSidedRun ts ps es h fs None no_tree → HasAny h fs → HasAny h es → IsRootOfQ ts ps (q_node (q3 es h fs None no_tree))
  front es fs h s f e =
      root_q2 (q2 es h fs) (q_node (q3 es h fs None no_tree))
      (record { es = es; h = h; fs = fs; pattern = inl (span_run s); not_full = any_not_full (span_run s) e; not_empty = any_not_empty (span_run s) f; becomes = refl })
      (inl (ap q_node (line_front es fs h)))

  rear : (fs gs : Forest) (k : Option Partial) → IsTwoSidedRun ts ps no_tree None fs k gs → HasAny k fs → HasAny k gs → IsRootOfQ ts ps (q_node (q3 no_tree None fs k gs))
  rear fs gs k s f g =
      let r : IsRun (back ts) (reverse ps) (back gs) k (back fs) = span_run (span_back s) in
      root_q2 (q2 (back gs) k (back fs)) (q_node (q3 no_tree None fs k gs))
      (record {
        es = back gs;
        h = k;
        fs = back fs;
        pattern = inr r;
        not_full = λ q. any_not_full r (any_back k gs g) (sorted_back q);
        not_empty = λ q. any_not_empty r (any_back k fs f) (sorted_back q);
        becomes = refl;
      })
      (inr (ap q_node (line_rear fs gs k)))

  whole : (fs : Forest) → IsTwoSidedRun ts ps no_tree None fs None no_tree → IsRootOfQ ts ps (q_node (q3 no_tree None fs None no_tree))
  whole fs s = subst (IsRootOfQ ts ps) (ap q_node (sym (span_plain s))) (root_q1 (run_all_full (span_run s)))

  both : (es fs gs : Forest) (h k : Option Partial) → IsTwoSidedRun ts ps es h fs k gs → HasAny h fs → HasAny k fs → HasAny h es → HasAny k gs → IsRootOfQ ts ps (q_node (q3 es h fs k gs))
  both es fs gs h k s a b c d =
      root_q3 (q_node (q3 es h fs k gs))
      (record { at = refl; es = es; h = h; fs = fs; k = k; gs = gs; pattern = s; not_q2 = span_not_q2 ts es fs gs ps h k s a b c d; becomes = refl })

  middle_is : (es fs gs : Forest) (h k : Option Partial) → IsTwoSidedRun ts ps es h fs k gs → HasAny h fs → HasAny k fs → IsRootOfQ ts ps (q_node (q3 es h fs k gs))
  middle_is no_tree fs no_tree None None s a b = whole fs s
  middle_is (tree_and e es) fs no_tree None None s a b = front (tree_and e es) fs None s a tt
  middle_is es fs no_tree (Some h) None s a b = front es fs (Some h) s a tt
  middle_is no_tree fs (tree_and g gs) None None s a b = rear fs (tree_and g gs) None s b tt
  middle_is no_tree fs gs None (Some k) s a b = rear fs gs (Some k) s b tt
  middle_is (tree_and e es) fs (tree_and g gs) None None s a b = both (tree_and e es) fs (tree_and g gs) None None s a b tt tt
  middle_is (tree_and e es) fs gs None (Some k) s a b = both (tree_and e es) fs gs None (Some k) s a b tt tt
  middle_is es fs (tree_and g gs) (Some h) None s a b = both es fs (tree_and g gs) (Some h) None s a b tt tt
  middle_is es fs gs (Some h) (Some k) s a b = both es fs gs (Some h) (Some k) s a b tt tt

-- Q1, Q2 and Q3; a Q-node without a partial child stays
pub root_q_is : (hs ks : List Partial) (fs es gs ts : Forest) (ps : List Label) (u : Outline) → IsTwoSidedRun ts ps es (first_of hs) fs (first_of ks) gs → root_q hs ks fs es gs ts ≡ Some u → IsRootOfQ ts ps u
root_q_is [] [] no_tree es gs ts ps u s e =
    root_q3 u
    (record {
      at = refl;
      es = es;
      h = None;
      fs = no_tree;
      k = None;
      gs = gs;
      pattern = s;
      not_q2 = λ x q. q.not_empty (span_all_empty s);
      becomes = sym (some_inj e) ∙ ap q_node (sym (span_plain s));
    })
root_q_is [] [] (tree_and f fs) es gs ts ps u s e =
    subst (IsRootOfQ ts ps) (ap q_node (span_plain s) ∙ some_inj e) (middle_is ts ps es (tree_and f fs) gs None None s tt tt)
root_q_is (h ∷ hs) [] no_tree es gs ts ps u s e = cc
root_q_is (h ∷ hs) [] (tree_and f fs) es gs ts ps u s e = subst (IsRootOfQ ts ps) (some_inj e) (middle_is ts ps es (tree_and f fs) gs (Some h) None s tt tt)
root_q_is [] (k ∷ ks) no_tree es gs ts ps u s e = cc
root_q_is [] (k ∷ ks) (tree_and f fs) es gs ts ps u s e = subst (IsRootOfQ ts ps) (some_inj e) (middle_is ts ps es (tree_and f fs) gs None (Some k) s tt tt)
root_q_is (h ∷ hs) (k ∷ ks) fs es gs ts ps u s e = subst (IsRootOfQ ts ps) (some_inj e) (middle_is ts ps es fs gs (Some h) (Some k) s tt tt)

pub p_outcome_some : (ts : Forest) (ps : List Label) (u : Outline) → length ps ≡ count ts → p_outcome ts ps ≡ Some u → IsRootOfP ts ps u
p_outcome_some ts ps u n e = root_p_is ts (empty_trees ts ps) (full_trees ts ps) ps (partials ps) u (sort ts ps n) e

pub q_outcome_some : (ts : Forest) (ps : List Label) (u : Outline) → length ps ≡ count ts → q_outcome ts ps ≡ Some u → IsRootOfQ ts ps u
q_outcome_some ts ps u n e =
    let v : (r : Span) × (span_of ts ps ≡ Some r) × (at_span ts r ≡ Some u) = and_then (at_span ts) (span_of ts ps) u e in
    root_q_is v.0.left v.0.tail.right v.0.tail.middle v.0.before v.0.tail.behind ts ps u (span_is ts ps v.0 (sort ts ps n) v.1) v.2

-- what the templates make of the pertinent root
pub root_p_right : (row : List ℕ) (ts : Forest) (ps : List Label) (u : Outline) → AreLabelled row ts ps → ((a : ℕ) → occurs (leaves_of ts) a ≤ 1) → IsRoot row ts → IsRootOfP ts ps u → Rooted row (p_node ts) u
root_p_right row ts ps u m once root (root_p1 s) = full_rooted row (p1 ts) (p1_kept row ts ps m s)
root_p_right row ts ps u m once root (root_p2 x s) = p2_kept row ts ps m u root s
root_p_right row ts ps u m once root (root_p4 x s) = p4_kept row ts ps m once u root s
root_p_right row ts ps u m once root (root_p6 x s) = p6_kept row ts ps m once u root s

pub root_q_right : (row : List ℕ) (ts : Forest) (ps : List Label) (u : Outline) → AreLabelled row ts ps → IsRoot row ts → IsRootOfQ ts ps u → Rooted row (q_node ts) u
root_q_right row ts ps u m root (root_q1 s) = full_rooted row (q1 ts) (q1_kept row ts ps m s)
root_q_right row ts ps u m root (root_q2 x v q s) = q2_rooted row ts ps x u m root q s
root_q_right row ts ps u m root (root_q3 v q) = q3_kept row ts ps u m root q

-- no child holds the row
pub not_all : (l xs : List ℕ) → IsFalse (list_all (λ a. has l a) xs) → Misses xs l
not_all l [] e = absurd (both_ways true e refl)
not_all l (x ∷ xs) e =
    elim (and_cases (has l x) (list_all (λ a. has l a) xs) e) [
      | inl k ↦ (x, has_head x xs, k)
      | inr k ↦ let w : Misses xs l = not_all l xs k in (w.0, has_tail x w.0 xs w.1, w.2)
    ]
