-- What a template makes of the pertinent root is paid.
use Rattle.std.proofs.Common.{◌≡◌, ℕ, ◌+◌, ◌*◌, ◌≤◌, cond, List, [], sym, ap, subst, arith}
use Rattle.std.proofs.lemmas.List.Sums.{sum_by-cons}
use Rattle.pq_tree.specs.Outline.{Outline, Forest, leaf, p_node, q_node, tree_and, leaves_of}
use Rattle.pq_tree.specs.Proper.{HasArities}
use Rattle.pq_tree.specs.Nodes.{meets}
use Rattle.pq_tree.specs.Amortised.{nodes_met, weight, weight_of}
use Rattle.pq_tree.proofs.Forests.{count_join}
use Rattle.pq_tree.proofs.Amortised.{weight_of-join}
use Rattle.tree_theory.specs.Templates.{Label, star, q2}
use Rattle.tree_theory.specs.Chosen.{IsRootOfP, root_p1, root_p2, root_p4, root_p6, IsRootOfQ, root_q1, root_q2, root_q3}
use Rattle.tree_theory.specs.Reduced.{IsRootMade}
use Rattle.tree_theory.proofs.Hits.{hits, in_row}
use Rattle.tree_theory.proofs.Sorts.{span_sorted}
use Rattle.tree_theory.proofs.Measures.{shape_measure, star_measure, p4_measure, p6_measure, q3_measure}
use Rattle.tree_theory.proofs.Weights.{weights}
use Rattle.tree_theory.proofs.Paid.{ArePaid, sorted_paid, star_one}
use Rattle.tree_theory.proofs.WeightBelow.{met_once, p_children_paid, run_paid, labels_paid}

-- the met nodes at the pertinent root and below it, and the weight of what it becomes
abbrev pub IsPaidRoot : List ℕ → Outline → Outline → Type 0
IsPaidRoot row x y = nodes_met row x + weight y ≤ 2 * hits row x + 2 + weight x

p_root_paid : (row : List ℕ) (ts : Forest) (ps : List Label) (u : Outline) → ArePaid row ts ps → IsRootOfP ts ps u → IsPaidRoot row (p_node ts) u
p_root_paid row ts ps u h (root_p1 s) = omega (arith, p_children_paid row s h)
p_root_paid row ts ps u h (root_p2 v s) =
    let f : Forest = tree_and s.f s.fs in
    let e : Forest = tree_and s.e s.es in
    subst (IsPaidRoot row (p_node ts)) (sym s.becomes)
    (omega (arith, p_children_paid row s.pattern h, count_join (star f) e, weight_of-join (star f) e, star_one f, star_measure weights f))
p_root_paid row ts ps u h (root_p4 v s) = subst (IsPaidRoot row (p_node ts)) (sym s.becomes) (omega (arith, p_children_paid row s.pattern h, p4_measure weights s.es s.h s.fs))
p_root_paid row ts ps u h (root_p6 v s) = subst (IsPaidRoot row (p_node ts)) (sym s.becomes) (omega (arith, p_children_paid row s.pattern h, p6_measure weights s.es s.h s.fs s.k))

q_root_paid : (row : List ℕ) (ts : Forest) (ps : List Label) (u : Outline) → ArePaid row ts ps → IsRootOfQ ts ps u → IsPaidRoot row (q_node ts) u
q_root_paid row ts ps u h (root_q1 s) = omega (arith, met_once (meets row (leaves_of ts)), sorted_paid row s h)
q_root_paid row ts ps u h (root_q2 x v q s) =
    let k : weight u ≡ 1 + (weight_of (q2 q.es q.h q.fs).e + weight_of (q2 q.es q.h q.fs).f) = subst (λ y. weight u ≡ 1 + (weight_of y.e + weight_of y.f)) q.becomes (shape_measure weights x u s) in
    omega (arith, k, met_once (meets row (leaves_of ts)), run_paid row ts ps q.es q.fs q.h h q.pattern)
q_root_paid row ts ps u h (root_q3 v q) =
    subst (IsPaidRoot row (q_node ts)) (sym q.becomes)
    (omega (arith, met_once (meets row (leaves_of ts)), q3_measure weights q.es q.fs q.gs q.h q.k, sorted_paid row (span_sorted q.pattern) h))

pub root_paid : (row : List ℕ) (x y : Outline) → HasArities x → IsRootMade row x y → IsPaidRoot row x y
root_paid row (leaf a) y c h =
    subst (IsPaidRoot row (leaf a)) (sym h.1) (omega (arith, sum_by-cons (in_row row) a [], ap (λ b. cond {A = ℕ} b 1 0) h.0))
root_paid row (p_node ts) y c h = p_root_paid row ts h.0 y (labels_paid row ts h.0 c.1 h.1) h.2
root_paid row (q_node ts) y c h = q_root_paid row ts h.0 y (labels_paid row ts h.0 c.1 h.1) h.2
