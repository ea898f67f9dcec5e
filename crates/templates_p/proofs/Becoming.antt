-- What stands at a P-node whose full children have become one.
use Rattle.std.proofs.Common.{◌≡◌, ℕ, ◌+◌, ◌≤◌, true, List, [], ◌∷◌, ◌++◌, map, length, Option, Some, None, refl, sym, ap, subst, ◌∙◌, arith}
use Rattle.column_order.specs.Orders.{occurs}
use Rattle.pq_tree.specs.Outline.{Outline, Forest, no_tree, tree_and}
use Rattle.pq_tree.specs.Forests.{join}
use Rattle.pq_tree.specs.Proper.{forest, count}
use Rattle.pq_tree.specs.Equivalent.{IsEquivalent, AreEquivalent}
use Rattle.arena_model.specs.declared.Shape.TheVariants.{P}
use Rattle.arena_model.specs.Layout.{Layout, shape_at, children_at, IsLayout}
use Rattle.arena_model.specs.NamedTree.{outline_below}
use Rattle.pq_arena.specs.declared.node.NodeId.{NodeId}
use Rattle.bubble_pass.specs.Marks.{Marks, fulls_at}
use Rattle.tree_theory.specs.Templates.{Label, star, IsP2}
use Rattle.template_model.specs.Standing.{child_trees, AreMarkedAs, IsReady}
use Rattle.template_model.specs.Treated.{StandsForTree}
use Rattle.templates_p.specs.Fits.{StandsP2}
use Rattle.templates_p.specs.Sorts.{full_nodes, empty_nodes, partial_nodes}
use Rattle.templates_p.specs.Steps.{IsGathered, CanGather}
use Rattle.templates_p.proofs.Sorting.{sorted_unique, sort, count_map, held_length, fulls_length, all_counted}
use Rattle.templates_p.proofs.Framing.{p_stands, are_same}

pub equivalent_join : (xs ys : Forest) (us vs : List Outline) → AreEquivalent xs us → AreEquivalent ys vs → AreEquivalent (join xs ys) (us ++ vs)
equivalent_join no_tree ys [] vs h k = k
equivalent_join no_tree ys (u ∷ us) vs h k = absurd h
equivalent_join (tree_and x xs) ys [] vs h k = absurd h
equivalent_join (tree_and x xs) ys (u ∷ us) vs h k = (h.0, equivalent_join xs ys us vs h.1 k)

-- some child is not full
pub can_gather : (f : Layout) (w : Marks) (n : ℕ) → IsReady f w n → shape_at f n ≡ Some P → 1 ≤ length (empty_nodes w (children_at f n)) + length (partial_nodes w (children_at f n)) → CanGather f w n
can_gather f w n r is_p some = record {
  ready = r;
  is_p = is_p;
  more = let e : fulls_at w n ≡ length (full_nodes w (children_at f n)) = r.right.full ∙ sym (fulls_length w (children_at f n)) in omega (arith, all_counted w (children_at f n));
}

pub p2_can_gather : (f : Layout) (w : Marks) (n : ℕ) → IsReady f w n → StandsP2 f w n → CanGather f w n
p2_can_gather f w n r s =
    let o : ℕ → Outline = outline_below f in
    let ks : List ℕ = children_at f n in
    let ps : List Label = s.0 in
    let two = s.3.1.1 in
    let u = sorted_unique (sort o w ks ps s.1) two.pattern in
    let a : length (empty_nodes w ks) ≡ count (tree_and two.e two.es) = sym (count_map o (empty_nodes w ks)) ∙ ap count u.0 in
    can_gather f w n r s.3.0 (omega arith)

pub no_trees : (o : ℕ → Outline) (xs : List ℕ) (t : Outline) (ts : Forest) → xs ≡ [] → forest (map o xs) ≡ tree_and t ts → ⊥
no_trees o [] t ts e q = cc
no_trees o (x ∷ xs) t ts e q = cc

pub occurs_none : (xs : List ℕ) (k : ℕ) → length xs ≡ 0 → occurs xs k ≡ 0
occurs_none [] k e = refl
occurs_none (x ∷ xs) k e = absurd (omega arith)

pub p2_becomes : (f g : Layout) (v w : Marks) (n : ℕ) (y : Option NodeId) (ps : List Label) (u : Outline) → IsLayout g → IsGathered f v g w n y → AreMarkedAs f v n ps →
    IsP2 true (child_trees f n) ps u → StandsForTree g n u
p2_becomes f g v w n None ps u h s marked two =
    let o : ℕ → Outline = outline_below f in
    let q = sorted_unique (sort o v (children_at f n) ps marked) two.pattern in
    absurd (no_trees o (full_nodes v (children_at f n)) two.f two.fs s.0 q.1)
p2_becomes f g v w n (Some y) ps u h s marked two =
    let o : ℕ → Outline = outline_below f in
    let ks : List ℕ = children_at f n in
    let q = sorted_unique (sort o v ks ps marked) two.pattern in
    let none : length (partial_nodes v ks) ≡ 0 = sym (held_length v ks ps marked) ∙ ap (λ hs. length hs) q.2 in
    let es : AreEquivalent (tree_and two.e two.es) (map (outline_below g) (empty_nodes v ks)) =
    subst (λ ts. AreEquivalent ts (map (outline_below g) (empty_nodes v ks))) q.0
    (are_same o (outline_below g) (empty_nodes v ks) (λ k i. (s.others k (omega arith)).tree)) in
    let fs : AreEquivalent (star (tree_and two.f two.fs)) (outline_below g y.index ∷ []) =
    subst (λ ts. AreEquivalent (star ts) (outline_below g y.index ∷ [])) q.1 s.tree in
    subst (λ t. IsEquivalent t (outline_below g n)) (sym two.becomes)
    (p_stands g n (y.index ∷ empty_nodes v ks) (join (star (tree_and two.f two.fs)) (tree_and two.e two.es)) h s.shape
    (λ k. let z : occurs (partial_nodes v ks) k ≡ 0 = occurs_none (partial_nodes v ks) k none in omega (arith, s.children k))
    (equivalent_join (star (tree_and two.f two.fs)) (tree_and two.e two.es) (outline_below g y.index ∷ []) (map (outline_below g) (empty_nodes v ks)) fs es))
