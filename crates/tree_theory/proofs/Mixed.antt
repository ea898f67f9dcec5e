-- A P-node over the children of a Q-node has a frontier that the Q-node lacks.
use Rattle.std.proofs.Common.{◌≡◌, ◌∙◌, ℕ, ◌<◌, ◌≤◌, ltb, List, [], ◌∷◌, ◌++◌, IsTrue, refl, sym, subst, inl, inr, arith}
use Rattle.std.proofs.lemmas.Bool.{both_ways, lt-ltb, le-ltb}
use Rattle.std.proofs.lemmas.List.Sorted.{IsPermutation-middle}
use Rattle.std.specs.List.{concat}
use Rattle.row_model.specs.Graph.{pair}
use Rattle.column_order.specs.Orders.{has, place}
use Rattle.column_order.proofs.Lists.{has_append_left, has_append_right}
use Rattle.pq_tree.specs.Outline.{Outline, Forest, p_node, q_node, no_tree, tree_and, leaves, leaves_of, IsFrontier}
use Rattle.pq_tree.specs.Forests.{count}
use Rattle.pq_tree.specs.Proper.{HaveArities}
use Rattle.pq_tree.proofs.Forests.{some_leaf}
use Rattle.tree_theory.proofs.Frontiers.{frontier_occurs}
use Rattle.tree_theory.proofs.Sorted.{rises_below}
use Rattle.tree_theory.proofs.Exact.{order_rises}
use Rattle.tree_theory.proofs.Alike.{Alike}
use Rattle.tree_theory.proofs.Mirror.{lists, lists_are}
use Rattle.tree_theory.proofs.Ends.{IsOnce, bound_at}
use Rattle.tree_theory.proofs.Aligned.{IsAligned}

three : (t v w : Outline) (ts : Forest) (x y z : Outline) (us : Forest) → HaveArities (tree_and x (tree_and y (tree_and z us))) →
    IsOnce (leaves_of (tree_and t (tree_and v (tree_and w ts)))) → IsOnce (leaves_of (tree_and x (tree_and y (tree_and z us)))) →
    leaves t ≡ leaves x → leaves v ≡ leaves y → leaves w ≡ leaves z →
    ((f : List ℕ) → IsFrontier (p_node (tree_and t (tree_and v (tree_and w ts)))) f → IsFrontier (q_node (tree_and x (tree_and y (tree_and z us)))) f) → ⊥
three t v w ts x y z us hu once_t once_u e k l sub =
    let ps : Forest = tree_and t (tree_and v (tree_and w ts)) in
    let qs : Forest = tree_and x (tree_and y (tree_and z us)) in
    let rest : List (List ℕ) = leaves w ∷ lists ts in
    let f : List ℕ = leaves v ++ (leaves t ++ concat rest) in
    let front : IsFrontier (p_node ps) f = (lists ps, leaves v ∷ leaves t ∷ rest, lists_are ps, IsPermutation-middle (leaves t ∷ []) (leaves v) rest, refl) in
    let a = some_leaf x hu.0 in
    let b = some_leaf y hu.1.0 in
    let c = some_leaf z hu.1.1.0 in
    let rises = order_rises f (λ d. omega (arith, frontier_occurs (p_node ps) f d front, once_t d)) in
    let bv : IsTrue (has (leaves v) b.0) = subst (λ m. IsTrue (has m b.0)) (sym k) b.1 in
    let at : IsTrue (has (leaves t) a.0) = subst (λ m. IsTrue (has m a.0)) (sym e) a.1 in
    let cw : IsTrue (has (leaves w) c.0) = subst (λ m. IsTrue (has m c.0)) (sym l) c.1 in
    let low : place f b.0 < place f a.0 =
    rises_below (place f) (leaves v) (leaves t ++ concat rest) rises b.0 a.0 bv (has_append_left (leaves t) (concat rest) a.0 at) in
    let high : place f b.0 < place f c.0 =
    rises_below (place f) (leaves v) (leaves t ++ concat rest) rises b.0 c.0 bv
    (has_append_right (leaves t) (concat rest) c.0 (has_append_left (leaves w) (concat (lists ts)) c.0 cw)) in
    let alike : Alike (place f) (pair a.0 b.0) (pair b.0 c.0) =
    (bound_at (q_node qs) once_u f (sub f front)).0 (pair a.0 b.0) (pair b.0 c.0)
    (inl (a.1, has_append_left (leaves y) (leaves_of (tree_and z us)) b.0 b.1))
    (inr (inl (b.1, has_append_left (leaves z) (leaves_of us) c.0 c.1))) in
    both_ways (ltb (place f a.0) (place f b.0)) (le-ltb (place f a.0) (place f b.0) (omega (arith, low))) (alike.0 ∙ lt-ltb (place f b.0) (place f c.0) high)

pub mixed : (ts us : Forest) → 3 ≤ count us → HaveArities us → IsOnce (leaves_of ts) → IsOnce (leaves_of us) → IsAligned ts us →
    ((f : List ℕ) → IsFrontier (p_node ts) f → IsFrontier (q_node us) f) → ⊥
mixed ts no_tree n hu ot ou al sub = absurd (omega arith)
mixed ts (tree_and x no_tree) n hu ot ou al sub = absurd (omega arith)
mixed ts (tree_and x (tree_and y no_tree)) n hu ot ou al sub = absurd (omega arith)
mixed no_tree (tree_and x (tree_and y (tree_and z us))) n hu ot ou al sub = absurd al
mixed (tree_and t no_tree) (tree_and x (tree_and y (tree_and z us))) n hu ot ou al sub = absurd al.1
mixed (tree_and t (tree_and v no_tree)) (tree_and x (tree_and y (tree_and z us))) n hu ot ou al sub = absurd al.1.1
mixed (tree_and t (tree_and v (tree_and w ts))) (tree_and x (tree_and y (tree_and z us))) n hu ot ou al sub =
    three t v w ts x y z us hu ot ou al.0 al.1.0 al.1.1.0 sub
