-- The label that the program makes of a node below the pertinent root is one that a template gives, and such a label is right.
use Rattle.std.proofs.Common.{◌≡◌, ◌⊎◌, ◌≤◌, ℕ, Bool, true, false, cond, List, [], ◌∷◌, reverse, length, Option, Some, None, IsTrue, refl, subst, inl, inr, arith, option_and_then}
use Rattle.std.proofs.lemmas.Bool.{both_ways}
use Rattle.column_order.specs.Orders.{occurs}
use Rattle.pq_tree.specs.Outline.{Forest, p_node, q_node, no_tree, tree_and, leaves_of}
use Rattle.pq_tree.specs.Proper.{HaveArities}
use Rattle.pq_tree.specs.Forests.{count, back}
use Rattle.tree_theory.specs.Templates.{Partial, Label, empty_label, full_label, partial_label, IsSorted, none_sorted, to_empty, to_full, to_partial, AreAllFull, AreAllEmpty, IsRun, run_full, run_partial, run_more, p3, p5, q2}
use Rattle.tree_theory.specs.Chosen.{IsLabelOfP, p_empty, by_p1, by_p3, by_p5, IsLabelOfQ, q_empty, by_q1, by_q2}
use Rattle.tree_theory.specs.Labels.{empty_trees, full_trees, partials, first_of}
use Rattle.tree_theory.proofs.Computed.{at_p, at_q, at_run, Run, run_of, all_full, one_more, first_some, p_label, q_label}
use Rattle.tree_theory.proofs.Meaning.{IsLabelled, labelled_empty, labelled_full, labelled_partial, AreLabelled}
use Rattle.tree_theory.proofs.Patterns.{as_all_full, as_all_empty, run_all_full, run_all_empty, sorted_back, full_unback, empty_unback, run_not_full, partial_not_full, run_not_empty, partial_not_empty}
use Rattle.tree_theory.proofs.Preserved.{p1_kept, empty_kept, p3_kept, p5_kept, q1_kept, q2_kept}

pub some_inj : {X : Type 0} {x y : X} → Some x ≡ Some y → x ≡ y
some_inj e = cc

pub and_then : {X Y : Type 0} (f : X → Option Y) (o : Option X) (y : Y) → option_and_then f o ≡ Some y → (x : X) × (o ≡ Some x) × (f x ≡ Some y)
and_then f None y e = cc
and_then f (Some x) y e = (x, refl, e)

pub cond_some : {X : Type 0} (b : Bool) (x y : X) → cond b (Some x) None ≡ Some y → IsTrue b × (x ≡ y)
cond_some true x y e = (refl, cc)
cond_some false x y e = cc

pub sort : (ts : Forest) (ps : List Label) → length ps ≡ count ts → IsSorted ts ps (empty_trees ts ps) (full_trees ts ps) (partials ps)
sort no_tree [] e = none_sorted
sort no_tree (p ∷ ps) e = absurd (omega arith)
sort (tree_and t ts) [] e = absurd (omega arith)
sort (tree_and t ts) (empty_label ∷ ps) e = to_empty (sort ts ps (omega arith))
sort (tree_and t ts) (full_label ∷ ps) e = to_full (sort ts ps (omega arith))
sort (tree_and t ts) (partial_label h ∷ ps) e = to_partial (sort ts ps (omega arith))

-- P1, P3 and P5
at_p_is : (ts es fs : Forest) (ps : List Label) (hs : List Partial) (x : Label) → IsSorted ts ps es fs hs → at_p hs es fs ≡ Some x → IsLabelOfP ts ps x
at_p_is ts no_tree fs ps [] x s e = subst (IsLabelOfP ts ps) (some_inj e) (by_p1 (as_all_full s))
at_p_is ts (tree_and t es) no_tree ps [] x s e = subst (IsLabelOfP ts ps) (some_inj e) (p_empty (as_all_empty s))
at_p_is ts (tree_and t es) (tree_and f fs) ps [] x s e =
    subst (IsLabelOfP ts ps) (some_inj e)
    (by_p3 (p3 (tree_and t es) (tree_and f fs)) (record { below = refl; e = t; es = es; f = f; fs = fs; pattern = s; becomes = refl }))
at_p_is ts es fs ps (h ∷ []) x s e =
    subst (IsLabelOfP ts ps) (some_inj e) (by_p5 (p5 es h fs) (record { below = refl; es = es; h = h; fs = fs; pattern = s; becomes = refl }))
at_p_is ts es fs ps (h ∷ k ∷ hs) x s e = cc

pub p_label_some : (ts : Forest) (ps : List Label) (x : Label) → length ps ≡ count ts → p_label ts ps ≡ Some x → IsLabelOfP ts ps x
p_label_some ts ps x n e = at_p_is ts (empty_trees ts ps) (full_trees ts ps) ps (partials ps) x (sort ts ps n) e

all_full_is : {ts es fs : Forest} {hs : List Partial} (ps : List Label) → IsSorted ts ps es fs hs → IsTrue (all_full ps) → AreAllFull ts ps
all_full_is ps none_sorted e = none_sorted
all_full_is ps (to_empty s) e = absurd (both_ways false refl e)
all_full_is ps (to_full {ps = qs} s) e = to_full (all_full_is qs s e)
all_full_is ps (to_partial s) e = absurd (both_ways false refl e)

-- what `run_of` finds is a run
pub run_is : {es fs : Forest} {hs : List Partial} (ts : Forest) (ps : List Label) (r : Run) → IsSorted ts ps es fs hs → run_of ts ps ≡ Some r → IsRun ts ps r.before (first_of r.middle) r.behind
run_is ts ps r none_sorted e = subst (λ (x : Run). IsRun no_tree [] x.before (first_of x.middle) x.behind) (some_inj e) (run_full none_sorted)
run_is ts ps r (to_empty {t = t} {ts = us} {ps = qs} s) e =
    let w : (x : Run) × (run_of us qs ≡ Some x) × (Some (one_more t x) ≡ Some r) = and_then (λ x. Some (one_more t x)) (run_of us qs) r e in
    subst (λ (x : Run). IsRun (tree_and t us) (empty_label ∷ qs) x.before (first_of x.middle) x.behind) (some_inj w.2) (run_more (run_is us qs w.0 s w.1))
run_is ts ps r (to_full {t = t} {ts = us} {ps = qs} s) e =
    let w : IsTrue (all_full qs) × (record { before = no_tree; middle = []; behind = tree_and t us } ≡ r) = cond_some (all_full qs) (record { before = no_tree; middle = []; behind = tree_and t us }) r e in
    subst (λ (x : Run). IsRun (tree_and t us) (full_label ∷ qs) x.before (first_of x.middle) x.behind) w.1 (run_full (to_full (all_full_is qs s w.0)))
run_is ts ps r (to_partial {t = t} {ts = us} {ps = qs} {h = h} s) e =
    let w : IsTrue (all_full qs) × (record { before = no_tree; middle = h ∷ []; behind = us } ≡ r) = cond_some (all_full qs) (record { before = no_tree; middle = h ∷ []; behind = us }) r e in
    subst (λ (x : Run). IsRun (tree_and t us) (partial_label h ∷ qs) x.before (first_of x.middle) x.behind) w.1 (run_partial (all_full_is qs s w.0))

-- the label of a run
pub data RunLabel (ts : Forest) (ps : List Label) : Label → Type 0 where
  run_is_full : AreAllFull ts ps → RunLabel ts ps full_label
  run_is_empty : AreAllEmpty ts ps → RunLabel ts ps empty_label
  run_is_q2 : (es fs : Forest) (h : Option Partial) → IsRun ts ps es h fs → (AreAllFull ts ps → ⊥) → (AreAllEmpty ts ps → ⊥) → RunLabel ts ps (partial_label (q2 es h fs))

at_q_is : (ts es fs : Forest) (ps : List Label) (hs : List Partial) (x : Label) → IsRun ts ps es (first_of hs) fs → at_q hs es fs ≡ Some x → RunLabel ts ps x
at_q_is ts no_tree fs ps [] x r e = subst (RunLabel ts ps) (some_inj e) (run_is_full (run_all_full r))
at_q_is ts (tree_and t es) no_tree ps [] x r e = subst (RunLabel ts ps) (some_inj e) (run_is_empty (run_all_empty r))
at_q_is ts (tree_and t es) (tree_and f fs) ps [] x r e =
    subst (RunLabel ts ps) (some_inj e) (run_is_q2 (tree_and t es) (tree_and f fs) None r (run_not_full t r) (run_not_empty f r))
at_q_is ts es fs ps (h ∷ hs) x r e =
    subst (RunLabel ts ps) (some_inj e) (run_is_q2 es fs (Some h) r (partial_not_full r) (partial_not_empty r))

at_run_is : {es fs : Forest} {hs : List Partial} (ts : Forest) (ps : List Label) (x : Label) → IsSorted ts ps es fs hs → option_and_then at_run (run_of ts ps) ≡ Some x → RunLabel ts ps x
at_run_is ts ps x s e =
    let w : (r : Run) × (run_of ts ps ≡ Some r) × (at_run r ≡ Some x) = and_then at_run (run_of ts ps) x e in
    at_q_is ts w.0.before w.0.behind ps w.0.middle x (run_is ts ps w.0 s w.1) w.2

-- Q1 and Q2, read from either end
pub from_front : (ts : Forest) (ps : List Label) (x : Label) → RunLabel ts ps x → IsLabelOfQ ts ps x
from_front ts ps x (run_is_full s) = by_q1 s
from_front ts ps x (run_is_empty s) = q_empty s
from_front ts ps x (run_is_q2 es fs h r nf ne) = by_q2 (q2 es h fs) (record { es = es; h = h; fs = fs; pattern = inl r; not_full = nf; not_empty = ne; becomes = refl })

pub from_rear : (ts : Forest) (ps : List Label) (x : Label) → RunLabel (back ts) (reverse ps) x → IsLabelOfQ ts ps x
from_rear ts ps x (run_is_full s) = by_q1 (full_unback s)
from_rear ts ps x (run_is_empty s) = q_empty (empty_unback s)
from_rear ts ps x (run_is_q2 es fs h r nf ne) =
    by_q2 (q2 es h fs) (record { es = es; h = h; fs = fs; pattern = inr r; not_full = λ s. nf (sorted_back s); not_empty = λ s. ne (sorted_back s); becomes = refl })

pub first_cases : {X : Type 0} (o k : Option X) (y : X) → first_some o k ≡ Some y → (o ≡ Some y) ⊎ (k ≡ Some y)
first_cases (Some z) k y e = inl e
first_cases None k y e = inr e

pub q_label_some : (ts : Forest) (ps : List Label) (x : Label) → length ps ≡ count ts → q_label ts ps ≡ Some x → IsLabelOfQ ts ps x
q_label_some ts ps x n e =
    elim (first_cases (option_and_then at_run (run_of ts ps)) (option_and_then at_run (run_of (back ts) (reverse ps))) x e) [
      | inl j ↦ from_front ts ps x (at_run_is ts ps x (sort ts ps n) j)
      | inr j ↦ from_rear ts ps x (at_run_is (back ts) (reverse ps) x (sorted_back (sort ts ps n)) j)
    ]

-- what the templates give from labels that are right is right
pub p_right : (row : List ℕ) (ts : Forest) (ps : List Label) (x : Label) → AreLabelled row ts ps → HaveArities ts → ((a : ℕ) → occurs (leaves_of ts) a ≤ 1) → IsLabelOfP ts ps x → IsLabelled row (p_node ts) x
p_right row ts ps x m c once (p_empty s) = labelled_empty (empty_kept row ts ps m s)
p_right row ts ps x m c once (by_p1 s) = labelled_full (p1_kept row ts ps m s)
p_right row ts ps x m c once (by_p3 h s) = labelled_partial h (p3_kept row ts ps m h c s)
p_right row ts ps x m c once (by_p5 h s) = labelled_partial h (p5_kept row ts ps m once h s)

pub q_right : (row : List ℕ) (ts : Forest) (ps : List Label) (x : Label) → AreLabelled row ts ps → HaveArities ts → 2 ≤ count ts → IsLabelOfQ ts ps x → IsLabelled row (q_node ts) x
q_right row ts ps x m c n (q_empty s) = labelled_empty (empty_kept row ts ps m s)
q_right row ts ps x m c n (by_q1 s) = labelled_full (q1_kept row ts ps m s)
q_right row ts ps x m c n (by_q2 h s) = labelled_partial h (q2_kept row ts ps h m c n s)
