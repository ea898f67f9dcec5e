-- What a template makes of the pertinent root has less slack, or is the root with its nodes turned.
use Rattle.std.proofs.Common.{◌≡◌, ◌∙◌, ◌⊎◌, ℕ, ◌+◌, ◌≤◌, List, reverse, length, Option, Some, None, refl, sym, ap, subst, inl, inr, arith}
use Rattle.pq_tree.specs.Outline.{Outline, Forest, leaf, p_node, q_node, no_tree, tree_and}
use Rattle.pq_tree.specs.Proper.{IsTree, HasArities}
use Rattle.pq_tree.specs.Forests.{trees, count, join, back}
use Rattle.pq_tree.specs.Nodes.{IsPertinentRoot}
use Rattle.pq_tree.specs.Equivalent.{IsEquivalent}
use Rattle.pq_tree.proofs.Forests.{back-back, forest-trees, forest_reverse, count_join}
use Rattle.pq_tree.proofs.Turnings.{equivalent_refl, are_equivalent_refl}
use Rattle.tree_theory.specs.Templates.{Partial, Label, star, line, q2, q3, IsShape, IsRun, run_full, run_partial, run_more, IsTail, tail_empty, tail_partial, tail_more, IsTwoSidedRun, span_tail, span_partial, span_more}
use Rattle.tree_theory.specs.Chosen.{IsRootOfP, root_p1, root_p2, root_p4, root_p6, IsRootOfQ, root_q1, root_q2, root_q3}
use Rattle.tree_theory.specs.Reduced.{AreLabels, IsRootMade}
use Rattle.tree_theory.specs.Laws.{FullChildrenOfP2Law, FullChildrenOfP4Law}
use Rattle.tree_theory.proofs.Sorts.{listed, sorted_count, span_sorted}
use Rattle.tree_theory.proofs.Measures.{measure-join, star_measure, shape_measure, p4_measure, p6_measure, q3_measure}
use Rattle.core_size.specs.Slack.{slack}
use Rattle.core_size.proofs.Slacks.{slacks}
use Rattle.core_size.proofs.Cuts.{AreCut, sorted_cut, run_cut, labels_cut}

-- the slack falls, or nodes are turned and no more
abbrev pub Narrows : Outline → Outline → Type 0
Narrows x y = (slack y + 1 ≤ slack x) ⊎ IsEquivalent x y

star_some : (t : Outline) (ts : Forest) → count (star (tree_and t ts)) ≡ 1
star_some t no_tree = refl
star_some t (tree_and u us) = refl

p_narrows : (row : List ℕ) (t : Outline) (ts : Forest) (ps : List Label) (u : Outline) → FullChildrenOfP2Law → FullChildrenOfP4Law → IsTree t → IsPertinentRoot row t (p_node ts) → AreLabels row ts ps → AreCut ts ps
    → IsRootOfP ts ps u → Narrows (p_node ts) u
p_narrows row t ts ps u two four tree root labels h (root_p1 s) = inr (equivalent_refl (p_node ts))
p_narrows row t ts ps u two four tree root labels h (root_p2 v s) =
    let f : Forest = tree_and s.f s.fs in
    let e : Forest = tree_and s.e s.es in
    let full : 2 ≤ count f = two row t u ts ps tree root labels s in
    let size : count (join (star f) e) ≡ 1 + count e = omega (arith, count_join (star f) e, star_some s.f s.fs) in
    inl (subst (λ v. slack v + 1 ≤ slack (p_node ts)) (sym s.becomes)
    (omega (arith, full, size, sorted_cut s.pattern h, sorted_count s.pattern, measure-join slacks (star f) e, star_measure slacks f)))
p_narrows row t ts ps u two four tree root labels h (root_p4 v s) =
    let full : 1 ≤ count s.fs = four row t u ts ps tree root labels s in
    inl (subst (λ v. slack v + 1 ≤ slack (p_node ts)) (sym s.becomes) (omega (arith, full, sorted_cut s.pattern h, sorted_count s.pattern, p4_measure slacks s.es s.h s.fs)))
p_narrows row t ts ps u two four tree root labels h (root_p6 v s) =
    inl (subst (λ v. slack v + 1 ≤ slack (p_node ts)) (sym s.becomes) (omega (arith, sorted_cut s.pattern h, sorted_count s.pattern, p6_measure slacks s.es s.h s.fs s.k)))

some_none : (h : Partial) → Some h ≡ None → ⊥
some_none h e = absurd (omega (arith, ap (λ k. length (listed k)) e))

-- without a partial child the children stay as they stand
run_whole : {ts es fs : Forest} {ps : List Label} {h : Option Partial} → IsRun ts ps es h fs → h ≡ None → join es fs ≡ ts
run_whole (run_full s) e = refl
run_whole (run_partial {h = h} s) e = absurd (some_none h e)
run_whole (run_more {t = t} r) e = ap (tree_and t) (run_whole r e)

-- a Q-node read from the other end is turned
q_back : (ts : Forest) → IsEquivalent (q_node ts) (q_node (back ts))
q_back ts = (trees ts, are_equivalent_refl ts, inr (ap q_node (sym (forest_reverse (trees ts) ∙ ap back (forest-trees ts)))))

tail_whole : {ts fs gs : Forest} {ps : List Label} {k : Option Partial} → IsTail ts ps fs k gs → k ≡ None → join fs gs ≡ ts
tail_whole (tail_empty s) e = refl
tail_whole (tail_partial {k = k} s) e = absurd (some_none k e)
tail_whole (tail_more {t = t} r) e = ap (tree_and t) (tail_whole r e)

span_whole : {ts es fs gs : Forest} {ps : List Label} {h k : Option Partial} → IsTwoSidedRun ts ps es h fs k gs → h ≡ None → k ≡ None → join es (join fs gs) ≡ ts
span_whole (span_tail r) e f = tail_whole r f
span_whole (span_partial {h = h} r) e f = absurd (some_none h e)
span_whole (span_more {t = t} r) e f = ap (tree_and t) (span_whole r e f)

-- a Q-shape of the children as they stand, from either end
shape_equivalent : (ts : Forest) (h : Partial) (u : Outline) → (line h ≡ ts) ⊎ (line h ≡ back ts) → IsShape h u → IsEquivalent (q_node ts) u
shape_equivalent ts h u (inl e) s = elim s [
  | inl k ↦ subst (IsEquivalent (q_node ts)) (sym (k ∙ ap q_node e)) (equivalent_refl (q_node ts))
  | inr k ↦ subst (IsEquivalent (q_node ts)) (sym (k ∙ ap (λ xs. q_node (back xs)) e)) (q_back ts)
]
shape_equivalent ts h u (inr e) s = elim s [
  | inl k ↦ subst (IsEquivalent (q_node ts)) (sym (k ∙ ap q_node e)) (q_back ts)
  | inr k ↦ subst (IsEquivalent (q_node ts)) (sym (k ∙ ap (λ xs. q_node (back xs)) e ∙ ap q_node (back-back ts))) (equivalent_refl (q_node ts))
]

-- by Q2
q2_narrows : (ts : Forest) (ps : List Label) (es fs : Forest) (h : Option Partial) (u : Outline) → AreCut ts ps → IsRun ts ps es h fs ⊎ IsRun (back ts) (reverse ps) es h fs → IsShape (q2 es h fs) u → Narrows (q_node ts) u
q2_narrows ts ps es fs None u a p s = inr (shape_equivalent ts (q2 es None fs) u (elim p [ inl r ↦ inl (run_whole r refl) | inr r ↦ inr (run_whole r refl) ]) s)
q2_narrows ts ps es fs (Some h) u a p s = inl (omega (arith, shape_measure slacks (q2 es (Some h) fs) u s, run_cut ts ps es fs (Some h) a p))

-- by Q3
q3_narrows : (ts : Forest) (ps : List Label) (es fs gs : Forest) (h k : Option Partial) → AreCut ts ps → IsTwoSidedRun ts ps es h fs k gs → Narrows (q_node ts) (q_node (q3 es h fs k gs))
q3_narrows ts ps es fs gs None None a p = inr (subst (λ xs. IsEquivalent (q_node ts) (q_node xs)) (sym (span_whole p refl refl)) (equivalent_refl (q_node ts)))
q3_narrows ts ps es fs gs (Some h) None a p = inl (omega (arith, q3_measure slacks es fs gs (Some h) None, sorted_cut (span_sorted p) a))
q3_narrows ts ps es fs gs None (Some k) a p = inl (omega (arith, q3_measure slacks es fs gs None (Some k), sorted_cut (span_sorted p) a))
q3_narrows ts ps es fs gs (Some h) (Some k) a p = inl (omega (arith, q3_measure slacks es fs gs (Some h) (Some k), sorted_cut (span_sorted p) a))

q_narrows : (ts : Forest) (ps : List Label) (u : Outline) → AreCut ts ps → IsRootOfQ ts ps u → Narrows (q_node ts) u
q_narrows ts ps u h (root_q1 s) = inr (equivalent_refl (q_node ts))
q_narrows ts ps u h (root_q2 x v q s) = q2_narrows ts ps q.es q.fs q.h u h q.pattern (subst (λ y. IsShape y u) q.becomes s)
q_narrows ts ps u h (root_q3 v q) = subst (Narrows (q_node ts)) (sym q.becomes) (q3_narrows ts ps q.es q.fs q.gs q.h q.k h q.pattern)

pub root_narrows : (row : List ℕ) (t x y : Outline) → FullChildrenOfP2Law → FullChildrenOfP4Law → IsTree t → IsPertinentRoot row t x → HasArities x → IsRootMade row x y → Narrows x y
root_narrows row t (leaf a) y two four tree root c h = inr (subst (IsEquivalent (leaf a)) (sym h.1) (equivalent_refl (leaf a)))
root_narrows row t (p_node ts) y two four tree root c h = p_narrows row t ts h.0 y two four tree root h.1 (labels_cut row ts h.0 c.1 h.1) h.2
root_narrows row t (q_node ts) y two four tree root c h = q_narrows ts h.0 y (labels_cut row ts h.0 c.1 h.1) h.2
