-- Patterns read from the other end, and patterns without a partial child.
use Rattle.std.proofs.Common.{◌≡◌, List, [], ◌∷◌, ◌++◌, reverse, Option, Some, None, refl, sym, ap, subst}
use Rattle.std.proofs.lemmas.List.{reverse-append, reverse-reverse}
use Rattle.pq_tree.specs.Outline.{Outline, Forest, no_tree, tree_and}
use Rattle.tree_theory.specs.Templates.{Partial, Label, empty_label, full_label, partial_label, IsSorted, none_sorted, to_empty, to_full, to_partial, AreAllFull, AreAllEmpty, IsRun, run_full, run_partial, run_more, IsTail, tail_empty, tail_more, IsTwoSidedRun, span_tail, span_more}
use Rattle.pq_tree.specs.Forests.{join, back}
use Rattle.pq_tree.proofs.Forests.{back-back}

-- children that are all full are the full ones, and children that are all empty the empty ones
pub full_is : {ts fs : Forest} {ps : List Label} → IsSorted ts ps no_tree fs [] → fs ≡ ts
full_is none_sorted = refl
full_is (to_full {t = t} s) = ap (tree_and t) (full_is s)

pub empty_is : {ts es : Forest} {ps : List Label} → IsSorted ts ps es no_tree [] → es ≡ ts
empty_is none_sorted = refl
empty_is (to_empty {t = t} s) = ap (tree_and t) (empty_is s)

pub as_all_full : {ts fs : Forest} {ps : List Label} → IsSorted ts ps no_tree fs [] → AreAllFull ts ps
as_all_full {ts = ts} {ps = ps} s = subst (λ x. IsSorted ts ps no_tree x []) (full_is s) s

pub as_all_empty : {ts es : Forest} {ps : List Label} → IsSorted ts ps es no_tree [] → AreAllEmpty ts ps
as_all_empty {ts = ts} {ps = ps} s = subst (λ x. IsSorted ts ps x no_tree []) (empty_is s) s

-- a run with no empty and no partial child is full; one with no partial and no full child is empty
pub run_all_full : {ts fs : Forest} {ps : List Label} → IsRun ts ps no_tree None fs → AreAllFull ts ps
run_all_full (run_full s) = s

pub run_all_empty : {ts es : Forest} {ps : List Label} → IsRun ts ps es None no_tree → AreAllEmpty ts ps
run_all_empty (run_full s) = s
run_all_empty (run_more r) = to_empty (run_all_empty r)

pub push_empty : {ts es fs : Forest} {ps : List Label} {hs : List Partial} (t : Outline) → IsSorted ts ps es fs hs → IsSorted (join ts (tree_and t no_tree)) (ps ++ empty_label ∷ []) (join es (tree_and t no_tree)) fs hs
push_empty t none_sorted = to_empty none_sorted
push_empty t (to_empty s) = to_empty (push_empty t s)
push_empty t (to_full s) = to_full (push_empty t s)
push_empty t (to_partial s) = to_partial (push_empty t s)

push_full : {ts es fs : Forest} {ps : List Label} {hs : List Partial} (t : Outline) → IsSorted ts ps es fs hs → IsSorted (join ts (tree_and t no_tree)) (ps ++ full_label ∷ []) es (join fs (tree_and t no_tree)) hs
push_full t none_sorted = to_full none_sorted
push_full t (to_empty s) = to_empty (push_full t s)
push_full t (to_full s) = to_full (push_full t s)
push_full t (to_partial s) = to_partial (push_full t s)

push_partial : {ts es fs : Forest} {ps : List Label} {hs : List Partial} (t : Outline) (h : Partial) → IsSorted ts ps es fs hs → IsSorted (join ts (tree_and t no_tree)) (ps ++ partial_label h ∷ []) es fs (hs ++ h ∷ [])
push_partial t h none_sorted = to_partial none_sorted
push_partial t h (to_empty s) = to_empty (push_partial t h s)
push_partial t h (to_full s) = to_full (push_partial t h s)
push_partial t h (to_partial s) = to_partial (push_partial t h s)

-- the children from the other end
pub sorted_back : {ts es fs : Forest} {ps : List Label} {hs : List Partial} → IsSorted ts ps es fs hs → IsSorted (back ts) (reverse ps) (back es) (back fs) (reverse hs)
sorted_back none_sorted = none_sorted
sorted_back (to_empty {t = t} {ts = ts} {es = es} {fs = fs} {ps = ps} {hs = hs} s) =
    subst (λ qs. IsSorted (join (back ts) (tree_and t no_tree)) qs (join (back es) (tree_and t no_tree)) (back fs) (reverse hs)) (sym (reverse-append (empty_label ∷ []) ps)) (push_empty t (sorted_back s))
sorted_back (to_full {t = t} {ts = ts} {es = es} {fs = fs} {ps = ps} {hs = hs} s) =
    subst (λ qs. IsSorted (join (back ts) (tree_and t no_tree)) qs (back es) (join (back fs) (tree_and t no_tree)) (reverse hs)) (sym (reverse-append (full_label ∷ []) ps)) (push_full t (sorted_back s))
sorted_back (to_partial {t = t} {ts = ts} {es = es} {fs = fs} {ps = ps} {hs = hs} {h = h} s) =
    subst (λ qs. IsSorted (join (back ts) (tree_and t no_tree)) qs (back es) (back fs) (reverse (h ∷ hs))) (sym (reverse-append (partial_label h ∷ []) ps))
    (subst (λ ks. IsSorted (join (back ts) (tree_and t no_tree)) (reverse ps ++ partial_label h ∷ []) (back es) (back fs) ks) (sym (reverse-append (h ∷ []) hs)) (push_partial t h (sorted_back s)))

pub full_unback : {ts : Forest} {ps : List Label} → AreAllFull (back ts) (reverse ps) → AreAllFull ts ps
full_unback {ts = ts} {ps = ps} s =
    subst (λ xs. AreAllFull xs ps) (back-back ts) (subst (AreAllFull (back (back ts))) (reverse-reverse ps) (sorted_back s))

pub empty_unback : {ts : Forest} {ps : List Label} → AreAllEmpty (back ts) (reverse ps) → AreAllEmpty ts ps
empty_unback {ts = ts} {ps = ps} s =
    subst (λ xs. AreAllEmpty xs ps) (back-back ts) (subst (AreAllEmpty (back (back ts))) (reverse-reverse ps) (sorted_back s))

tail_plain : {ts fs gs : Forest} {ps : List Label} → IsTail ts ps fs None gs → join fs gs ≡ ts
tail_plain (tail_empty s) = refl
tail_plain (tail_more {t = t} r) = ap (tree_and t) (tail_plain r)

-- a span with no partial child
pub span_plain : {ts es fs gs : Forest} {ps : List Label} → IsTwoSidedRun ts ps es None fs None gs → join es (join fs gs) ≡ ts
span_plain (span_tail r) = tail_plain r
span_plain (span_more {t = t} r) = ap (tree_and t) (span_plain r)

-- a span with no partial and no full child is empty
tail_all_empty : {ts gs : Forest} {ps : List Label} → IsTail ts ps no_tree None gs → AreAllEmpty ts ps
tail_all_empty (tail_empty s) = s

pub span_all_empty : {ts es gs : Forest} {ps : List Label} → IsTwoSidedRun ts ps es None no_tree None gs → AreAllEmpty ts ps
span_all_empty (span_tail r) = tail_all_empty r
span_all_empty (span_more r) = to_empty (span_all_empty r)

-- a run with an empty or a partial child is not full
pub run_not_full : {ts es fs : Forest} {ps : List Label} {h : Option Partial} (e : Outline) → IsRun ts ps (tree_and e es) h fs → AreAllFull ts ps → ⊥
run_not_full e (run_more r) s = elim s [ ]

pub partial_not_full : {ts es fs : Forest} {ps : List Label} {h : Partial} → IsRun ts ps es (Some h) fs → AreAllFull ts ps → ⊥
partial_not_full (run_partial r) s = elim s [ ]
partial_not_full (run_more r) s = elim s [ ]

-- a run with a full or a partial child is not empty
full_not_empty : {ts us es fs : Forest} {ps : List Label} (f : Outline) → IsSorted ts ps no_tree (tree_and f fs) [] → IsSorted us ps es no_tree [] → ⊥
full_not_empty f (to_full r) s = elim s [ ]

pub run_not_empty : {ts us es gs fs : Forest} {ps : List Label} {h : Option Partial} (f : Outline) → IsRun ts ps es h (tree_and f fs) → IsSorted us ps gs no_tree [] → ⊥
run_not_empty f (run_full r) s = full_not_empty f r s
run_not_empty f (run_partial r) s = elim s [ ]
run_not_empty f (run_more r) (to_empty s) = run_not_empty f r s

pub partial_not_empty : {ts us es gs fs : Forest} {ps : List Label} {h : Partial} → IsRun ts ps es (Some h) fs → IsSorted us ps gs no_tree [] → ⊥
partial_not_empty (run_partial r) s = elim s [ ]
partial_not_empty (run_more r) (to_empty s) = partial_not_empty r s
