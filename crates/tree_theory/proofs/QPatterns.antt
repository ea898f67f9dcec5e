-- Patterns of Q-nodes: a span read from the other end, a span with nothing on one side, and one that is no run.
use Rattle.std.proofs.Common.{◌≡◌, List, [], ◌∷◌, ◌++◌, reverse, Option, Some, None, sym, subst, inl, inr}
use Rattle.std.proofs.lemmas.List.{reverse-append, reverse-reverse}
use Rattle.pq_tree.specs.Outline.{Outline, Forest, no_tree, tree_and}
use Rattle.tree_theory.specs.Templates.{Partial, Label, empty_label, full_label, partial_label, line, q2, q3, IsSorted, none_sorted, to_empty, to_full, AreAllFull, AreAllEmpty, IsRun, run_full, run_partial, run_more, IsTail, tail_empty, tail_partial, tail_more, IsTwoSidedRun, span_tail, span_partial, span_more, IsQ2}
use Rattle.pq_tree.specs.Forests.{join, back}
use Rattle.pq_tree.proofs.Forests.{join_assoc, join_no_tree, back-back, back-join}
use Rattle.tree_theory.proofs.Patterns.{full_is, as_all_full, sorted_back, push_empty, run_not_full, partial_not_full, run_not_empty, partial_not_empty}

-- full children alone, and empty ones alone
full_tail : {ts fs : Forest} {ps : List Label} → IsSorted ts ps no_tree fs [] → IsTail ts ps fs None no_tree
full_tail none_sorted = tail_empty none_sorted
full_tail (to_full s) = tail_more (full_tail s)

tail_full : {ts fs : Forest} {ps : List Label} → IsTail ts ps fs None no_tree → IsSorted ts ps no_tree fs []
tail_full (tail_empty none_sorted) = none_sorted
tail_full (tail_more r) = to_full (tail_full r)

empty_span : {ts es : Forest} {ps : List Label} → IsSorted ts ps es no_tree [] → IsTwoSidedRun ts ps es None no_tree None no_tree
empty_span none_sorted = span_tail (tail_empty none_sorted)
empty_span (to_empty s) = span_more (empty_span s)

pub empty_run : {ts es : Forest} {ps : List Label} → IsSorted ts ps es no_tree [] → IsRun ts ps es None no_tree
empty_run none_sorted = run_full none_sorted
empty_run (to_empty s) = run_more (empty_run s)

-- a run is a span with nothing behind
pub run_span : {ts es fs : Forest} {ps : List Label} {h : Option Partial} → IsRun ts ps es h fs → IsTwoSidedRun ts ps es h fs None no_tree
run_span (run_full s) = span_tail (full_tail s)
run_span (run_partial s) = span_partial (full_tail s)
run_span (run_more r) = span_more (run_span r)

pub span_run : {ts es fs : Forest} {ps : List Label} {h : Option Partial} → IsTwoSidedRun ts ps es h fs None no_tree → IsRun ts ps es h fs
span_run {ts = ts} {ps = ps} (span_tail r) =
    let s : IsSorted ts ps no_tree _ [] = tail_full r in
    subst (IsRun ts ps no_tree None) (sym (full_is s)) (run_full (as_all_full s))
span_run (span_partial {t = t} {ts = ts} {ps = ps} {h = h} r) =
    let s : IsSorted ts ps no_tree _ [] = tail_full r in
    subst (IsRun (tree_and t ts) (partial_label h ∷ ps) no_tree (Some h)) (sym (full_is s)) (run_partial (as_all_full s))
span_run (span_more r) = run_more (span_run r)

-- one more child at the far end
tail_and_full : {ts fs : Forest} {ps : List Label} (t : Outline) → IsTail ts ps fs None no_tree → IsTail (join ts (tree_and t no_tree)) (ps ++ full_label ∷ []) (join fs (tree_and t no_tree)) None no_tree
tail_and_full t (tail_empty none_sorted) = tail_more (tail_empty none_sorted)
tail_and_full t (tail_more r) = tail_more (tail_and_full t r)

and_full : {ts es fs : Forest} {ps : List Label} {h : Option Partial} (t : Outline) → IsTwoSidedRun ts ps es h fs None no_tree →
    IsTwoSidedRun (join ts (tree_and t no_tree)) (ps ++ full_label ∷ []) es h (join fs (tree_and t no_tree)) None no_tree
and_full t (span_tail r) = span_tail (tail_and_full t r)
and_full t (span_partial r) = span_partial (tail_and_full t r)
and_full t (span_more r) = span_more (and_full t r)

tail_and_partial : {ts fs : Forest} {ps : List Label} (t : Outline) (k : Partial) → IsTail ts ps fs None no_tree → IsTail (join ts (tree_and t no_tree)) (ps ++ partial_label k ∷ []) fs (Some k) no_tree
tail_and_partial t k (tail_empty none_sorted) = tail_partial none_sorted
tail_and_partial t k (tail_more r) = tail_more (tail_and_partial t k r)

and_partial : {ts es fs : Forest} {ps : List Label} {h : Option Partial} (t : Outline) (k : Partial) → IsTwoSidedRun ts ps es h fs None no_tree →
    IsTwoSidedRun (join ts (tree_and t no_tree)) (ps ++ partial_label k ∷ []) es h fs (Some k) no_tree
and_partial t k (span_tail r) = span_tail (tail_and_partial t k r)
and_partial t k (span_partial r) = span_partial (tail_and_partial t k r)
and_partial t k (span_more r) = span_more (and_partial t k r)

tail_and_empty : {ts fs gs : Forest} {ps : List Label} {k : Option Partial} (t : Outline) → IsTail ts ps fs k gs → IsTail (join ts (tree_and t no_tree)) (ps ++ empty_label ∷ []) fs k (join gs (tree_and t no_tree))
tail_and_empty t (tail_empty s) = tail_empty (push_empty t s)
tail_and_empty t (tail_partial s) = tail_partial (push_empty t s)
tail_and_empty t (tail_more r) = tail_more (tail_and_empty t r)

and_empty : {ts es fs gs : Forest} {ps : List Label} {h k : Option Partial} (t : Outline) → IsTwoSidedRun ts ps es h fs k gs →
    IsTwoSidedRun (join ts (tree_and t no_tree)) (ps ++ empty_label ∷ []) es h fs k (join gs (tree_and t no_tree))
and_empty t (span_tail r) = span_tail (tail_and_empty t r)
and_empty t (span_partial r) = span_partial (tail_and_empty t r)
and_empty t (span_more r) = span_more (and_empty t r)

empty_and_partial : {ts es : Forest} {ps : List Label} (t : Outline) (k : Partial) → IsSorted ts ps es no_tree [] → IsTwoSidedRun (join ts (tree_and t no_tree)) (ps ++ partial_label k ∷ []) es (Some k) no_tree None no_tree
empty_and_partial t k none_sorted = span_partial (tail_empty none_sorted)
empty_and_partial t k (to_empty s) = span_more (empty_and_partial t k s)

-- a span from the other end
at_end : {es fs gs : Forest} {h k : Option Partial} (t : Outline) (ts : Forest) (p : Label) (ps : List Label) →
    IsTwoSidedRun (join (back ts) (tree_and t no_tree)) (reverse ps ++ p ∷ []) es h fs k gs → IsTwoSidedRun (back (tree_and t ts)) (reverse (p ∷ ps)) es h fs k gs
at_end {es = es} {fs = fs} {gs = gs} {h = h} {k = k} t ts p ps s =
    subst (λ qs. IsTwoSidedRun (join (back ts) (tree_and t no_tree)) qs es h fs k gs) (sym (reverse-append (p ∷ []) ps)) s

tail_back : {ts fs gs : Forest} {ps : List Label} {k : Option Partial} → IsTail ts ps fs k gs → IsTwoSidedRun (back ts) (reverse ps) (back gs) k (back fs) None no_tree
tail_back (tail_empty s) = empty_span (sorted_back s)
tail_back (tail_partial {t = t} {ts = ts} {ps = ps} {k = k} s) = at_end t ts (partial_label k) ps (empty_and_partial t k (sorted_back s))
tail_back (tail_more {t = t} {ts = ts} {ps = ps} r) = at_end t ts full_label ps (and_full t (tail_back r))

pub span_back : {ts es fs gs : Forest} {ps : List Label} {h k : Option Partial} → IsTwoSidedRun ts ps es h fs k gs → IsTwoSidedRun (back ts) (reverse ps) (back gs) k (back fs) h (back es)
span_back (span_tail r) = tail_back r
span_back (span_partial {t = t} {ts = ts} {ps = ps} {h = h} r) = at_end t ts (partial_label h) ps (and_partial t h (tail_back r))
span_back (span_more {t = t} {ts = ts} {ps = ps} r) = at_end t ts empty_label ps (and_empty t (span_back r))

-- a run from the other end is a span with nothing before
pub rear_span : {ts es fs : Forest} {ps : List Label} {h : Option Partial} → IsRun (back ts) (reverse ps) es h fs → IsTwoSidedRun ts ps no_tree None (back fs) h (back es)
rear_span {ts = ts} {es = es} {fs = fs} {ps = ps} {h = h} r =
    subst (λ xs. IsTwoSidedRun xs ps no_tree None (back fs) h (back es)) (back-back ts)
    (subst (λ qs. IsTwoSidedRun (back (back ts)) qs no_tree None (back fs) h (back es)) (reverse-reverse ps) (span_back (run_span r)))

-- a partial or a tree is there
abbrev pub HasAny : Option Partial → Forest → Type 0
HasAny (Some h) ts = Unit {0}
HasAny None no_tree = ⊥
HasAny None (tree_and t ts) = Unit {0}

any_join : (h : Option Partial) (ts : Forest) (t : Outline) (us : Forest) → HasAny h (join ts (tree_and t us))
any_join (Some h) ts t us = tt
any_join None no_tree t us = tt
any_join None (tree_and u ts) t us = tt

pub any_back : (h : Option Partial) (ts : Forest) → HasAny h ts → HasAny h (back ts)
any_back (Some h) ts a = tt
any_back None no_tree a = a
any_back None (tree_and t ts) a = any_join None (back ts) t no_tree

-- a run with an empty or a partial child is not full, and one with a full or a partial child is not empty
pub any_not_full : {ts es fs : Forest} {ps : List Label} {h : Option Partial} → IsRun ts ps es h fs → HasAny h es → AreAllFull ts ps → ⊥
any_not_full {es = es} {h = Some h} r a s = partial_not_full r s
any_not_full {es = no_tree} {h = None} r a s = a
any_not_full {es = tree_and e es} {h = None} r a s = run_not_full e r s

pub any_not_empty : {ts es fs : Forest} {ps : List Label} {h : Option Partial} → IsRun ts ps es h fs → HasAny h fs → AreAllEmpty ts ps → ⊥
any_not_empty {fs = fs} {h = Some h} r a s = partial_not_empty r s
any_not_empty {fs = no_tree} {h = None} r a s = a
any_not_empty {fs = tree_and f fs} {h = None} r a s = run_not_empty f r s

-- a span with something on both sides of its full and partial children is no run from either end
empty_not_full : {ts es xs : Forest} {ps : List Label} → IsSorted ts ps es no_tree [] → HasAny None ts → IsSorted ts ps no_tree xs [] → ⊥
empty_not_full none_sorted a s = a
empty_not_full (to_empty r) a s = elim s [ ]

tail_not_full : {ts fs gs xs : Forest} {ps : List Label} {k : Option Partial} → IsTail ts ps fs k gs → HasAny k gs → IsSorted ts ps no_tree xs [] → ⊥
tail_not_full (tail_empty r) a s = empty_not_full r a s
tail_not_full (tail_partial r) a s = elim s [ ]
tail_not_full (tail_more r) a (to_full s) = tail_not_full r a s

span_not_run : {ts es fs gs xs ys : Forest} {ps : List Label} {h k l : Option Partial} → IsTwoSidedRun ts ps es h fs k gs → HasAny h fs → HasAny k gs → IsRun ts ps xs l ys → ⊥
span_not_run (span_tail (tail_empty s)) a b r = a
span_not_run (span_tail (tail_partial s)) a b r = a
span_not_run (span_tail (tail_more q)) a b (run_full s) = tail_not_full (tail_more q) b s
span_not_run (span_partial q) a b (run_partial s) = tail_not_full q b s
span_not_run (span_partial q) a b (run_full s) = elim s [ ]
span_not_run (span_more q) a b (run_more r) = span_not_run q a b r
span_not_run (span_more q) a b (run_full s) = elim s [ ]

pub span_not_q2 : (ts es fs gs : Forest) (ps : List Label) (h k : Option Partial) → IsTwoSidedRun ts ps es h fs k gs → HasAny h fs → HasAny k fs → HasAny h es → HasAny k gs → (x : Partial) → IsQ2 ts ps x → ⊥
span_not_q2 ts es fs gs ps h k s a b c d x q =
    elim q.pattern [
      | inl r ↦ span_not_run s a d r
      | inr r ↦ span_not_run (span_back s) (any_back k fs b) (any_back h es c) r
    ]

-- Q2 read from the one and from the other end
pub line_front : (es fs : Forest) (h : Option Partial) → q3 es h fs None no_tree ≡ line (q2 es h fs)
line_front es fs None = simp join_no_tree
line_front es fs (Some h) = simp (join_assoc, join_no_tree)

pub line_rear : (fs gs : Forest) (k : Option Partial) → q3 no_tree None fs k gs ≡ back (line (q2 (back gs) k (back fs)))
line_rear fs gs None = simp (back-join, back-back)
line_rear fs gs (Some k) = simp (back-join, back-back, join_assoc)
