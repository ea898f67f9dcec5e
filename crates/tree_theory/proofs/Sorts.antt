-- Children and their labels: those that are sorted by these, and what holds of each child with its label.
use Rattle.std.proofs.Common.{◌≡◌, ◌+◌, List, [], ◌∷◌, ◌++◌, reverse, length, Option, Some, None, refl, sym, subst, arith}
use Rattle.std.proofs.lemmas.List.{reverse-append}
use Rattle.pq_tree.specs.Outline.{Outline, Forest, no_tree, tree_and}
use Rattle.pq_tree.specs.Forests.{count, join, back}
use Rattle.tree_theory.specs.Templates.{Partial, Label, IsSorted, none_sorted, to_empty, to_full, to_partial, IsRun, run_full, run_partial, run_more, IsTail, tail_empty, tail_partial, tail_more, IsTwoSidedRun, span_tail, span_partial, span_more}

-- a partial that may be missing, as a list
abbrev pub listed : Option Partial → List Partial
listed None = []
listed (Some h) = h ∷ []

-- how many there are of each label
pub sorted_count : {ts es fs : Forest} {ps : List Label} {hs : List Partial} → IsSorted ts ps es fs hs → count ts ≡ count es + count fs + length hs
sorted_count none_sorted = refl
sorted_count (to_empty s) = omega (arith, sorted_count s)
sorted_count (to_full s) = omega (arith, sorted_count s)
sorted_count (to_partial s) = omega (arith, sorted_count s)

-- a run, a tail and a span, sorted
pub run_sorted : {ts es fs : Forest} {ps : List Label} {h : Option Partial} → IsRun ts ps es h fs → IsSorted ts ps es fs (listed h)
run_sorted (run_full s) = s
run_sorted (run_partial s) = to_partial s
run_sorted (run_more r) = to_empty (run_sorted r)

pub tail_sorted : {ts fs gs : Forest} {ps : List Label} {k : Option Partial} → IsTail ts ps fs k gs → IsSorted ts ps gs fs (listed k)
tail_sorted (tail_empty s) = s
tail_sorted (tail_partial s) = to_partial s
tail_sorted (tail_more r) = to_full (tail_sorted r)

pub span_sorted : {ts es fs gs : Forest} {ps : List Label} {h k : Option Partial} → IsTwoSidedRun ts ps es h fs k gs → IsSorted ts ps (join es gs) fs (listed h ++ listed k)
span_sorted (span_tail r) = tail_sorted r
span_sorted (span_partial r) = to_partial (tail_sorted r)
span_sorted (span_more s) = to_empty (span_sorted s)

-- P holds of each tree with its label
abbrev pub AreEach : (Outline → Label → Type 0) → Forest → List Label → Type 0
AreEach P no_tree [] = Unit {0}
AreEach P no_tree (x ∷ ps) = ⊥
AreEach P (tree_and t ts) [] = ⊥
AreEach P (tree_and t ts) (x ∷ ps) = P t x × AreEach P ts ps

each_push : (P : Outline → Label → Type 0) (ts : Forest) (ps : List Label) (t : Outline) (x : Label) → AreEach P ts ps → P t x → AreEach P (join ts (tree_and t no_tree)) (ps ++ x ∷ [])
each_push P no_tree [] t x h k = (k, tt)
each_push P no_tree (y ∷ ps) t x h k = absurd h
each_push P (tree_and s ts) [] t x h k = absurd h
each_push P (tree_and s ts) (y ∷ ps) t x h k = (h.0, each_push P ts ps t x h.1 k)

-- so from the other end
pub each_back : (P : Outline → Label → Type 0) (ts : Forest) (ps : List Label) → AreEach P ts ps → AreEach P (back ts) (reverse ps)
each_back P no_tree [] h = tt
each_back P no_tree (x ∷ ps) h = absurd h
each_back P (tree_and t ts) [] h = absurd h
each_back P (tree_and t ts) (x ∷ ps) h =
    subst (AreEach P (back (tree_and t ts))) (sym (reverse-append (x ∷ []) ps)) (each_push P (back ts) (reverse ps) t x (each_back P ts ps h.1) h.0)
