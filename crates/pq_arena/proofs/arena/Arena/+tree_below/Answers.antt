use Rattle.std.proofs.Common.{◌≡◌, ◌∙◌, ℕ, ◌≤◌, ◌<◌, List, map, take, get_or, length, Some, refl, sym, ap, subst, arith}
use Rattle.std.proofs.lemmas.List.{take_all, map-append}
use Rattle.std.proofs.lemmas.Result.{IfOk-weaker}
use Rattle.column_order.specs.Orders.{occurs}
use Rattle.arena_model.proofs.Lists.{occurs_at}
use Rattle.arena_model.proofs.Outlines.{below_children}
use Rattle.arena_model.proofs.Slots.{child_used}
use Rattle.arena_model.specs.Layout.{Layout, shape_at, children_at, IsInUse, IsLayout}
use Rattle.arena_model.specs.NamedTree.{outline_below}
use Rattle.arena_model.specs.declared.Shape.{Shape}
use Rattle.arena_model.specs.declared.Shape.TheVariants.{Leaf, P, Q}
use Rattle.pq_tree.proofs.Canonical.{equivalent_more}
use Rattle.pq_tree.proofs.Turnings.{turned_P, turned_Q}
use Rattle.pq_tree.specs.Arranged.{outline_in, children_in}
use Rattle.pq_tree.specs.Equivalent.{IsEquivalent, AreEquivalent}
use Rattle.pq_tree.specs.Outline.{Outline}
use Rattle.pq_tree.specs.Proper.{forest}
use Rattle.pq_arena.proofs.Levels.{levels, child_lower}
use Rattle.pq_arena.proofs.arena.Arena.+tree_below.Goals as goal

-- a child that the loop comes to has fewer levels below it, and is in use
lower : (f : Layout) (n i : ℕ) (s : Shape) (ks : List ℕ) → IsLayout f → shape_at f n ≡ Some s → ks ≡ children_at f n → i < length ks →
    (levels (outline_below f (get_or ks i 0)) < levels (outline_below f n)) × IsInUse f (get_or ks i 0)
lower f n i s ks h sh e l =
    let o : 1 ≤ occurs (children_at f n) (get_or ks i 0) = subst (λ z. 1 ≤ occurs z (get_or ks i 0)) e (occurs_at ks i l) in
    (child_lower f n (get_or ks i 0) s h sh o, child_used f n (get_or ks i 0) h o)

-- what the loop has done at its end
all_done : (f : Layout) (n i : ℕ) (ks : List ℕ) (us : List Outline) → ks ≡ children_at f n → length ks ≤ i →
    AreEquivalent (forest (map (outline_below f) (take i ks))) us → AreEquivalent (forest (map (outline_below f) (children_at f n))) us
all_done f n i ks us e l h = subst (λ xs. AreEquivalent (forest (map (outline_below f) xs)) us) (take_all i ks l ∙ e) h

pub returns-in-Leaf : goal.returns-in-Leaf
returns-in-Leaf t c =
    subst (λ x. IsEquivalent x (outline_in c.leaf.result))
    (sym (below_children c.args.self.now c.args.n (Leaf c.in-Leaf.column) c.in-Leaf.ensures.layout c.in-Leaf.ensures.shape)) c.leaf.ensures

pub tree_below-requires : goal.tree_below-requires
tree_below-requires t c =
    let k = lower c.args.self.now c.args.n c.loop-number.number-index P c.deref-number-items.result.now c.in-P.ensures.layout c.in-P.ensures.shape
    (c.deref-number-items.ensures.value ∙ c.in_ok-numbers-in-P.ensures) c.loop-number-test.true in
    (omega (arith, k.0), k.1)

pub loop-number-preserved : goal.loop-number-preserved
loop-number-preserved t c =
    equivalent_more (outline_below c.args.self.now) c.deref-number-items.result.now _ _ c.loop-number.number-index 0 _ _ c.loop-number-test.true refl
    (ap (map outline_in) c.in_ok-push-in-P.ensures.items ∙ map-append outline_in c.loop-number.children.items _) c.loop-number.invariant c.in_ok-tree_below-in-P.ensures

pub returns-after-loop-number : goal.returns-after-loop-number
returns-after-loop-number t c =
    IfOk-weaker c.p.result _ _
    (λ a k. subst (λ x. IsEquivalent x (outline_in a)) (sym (below_children c.args.self.now c.args.n P c.in-P.ensures.layout c.in-P.ensures.shape))
    (turned_P (forest (map (outline_below c.args.self.now) (children_at c.args.self.now c.args.n))) (map outline_in c.loop-number.children.items) (outline_in a)
    (all_done c.args.self.now c.args.n c.loop-number.number-index c.deref-number-items.result.now (map outline_in c.loop-number.children.items)
    (c.deref-number-items.ensures.value ∙ c.in_ok-numbers-in-P.ensures) c.loop-number-test.false c.loop-number.invariant) k)) c.p.ensures

pub tree_below-requires-in-loop-number-2 : goal.tree_below-requires-in-loop-number-2
tree_below-requires-in-loop-number-2 t c =
    let k = lower c.args.self.now c.args.n c.loop-number-2.number-index Q c.deref-number-items-in-Q.result.now c.in-Q.ensures.layout c.in-Q.ensures.shape
    (c.deref-number-items-in-Q.ensures.value ∙ c.in_ok-numbers-in-Q.ensures) c.loop-number-2-test.true in
    (omega (arith, k.0), k.1)

pub loop-number-2-preserved : goal.loop-number-2-preserved
loop-number-2-preserved t c =
    equivalent_more (outline_below c.args.self.now) c.deref-number-items-in-Q.result.now _ _ c.loop-number-2.number-index 0 _ _ c.loop-number-2-test.true refl
    c.in_ok-push-in-Q.ensures.ok c.loop-number-2.invariant c.in_ok-tree_below-in-Q.ensures

pub returns-after-loop-number-2 : goal.returns-after-loop-number-2
returns-after-loop-number-2 t c =
    subst (λ x. IsEquivalent x (outline_in c.into_q.result)) (sym (below_children c.args.self.now c.args.n Q c.in-Q.ensures.layout c.in-Q.ensures.shape))
    (turned_Q (forest (map (outline_below c.args.self.now) (children_at c.args.self.now c.args.n))) (children_in c.loop-number-2.children) (outline_in c.into_q.result)
    (all_done c.args.self.now c.args.n c.loop-number-2.number-index c.deref-number-items-in-Q.result.now (children_in c.loop-number-2.children)
    (c.deref-number-items-in-Q.ensures.value ∙ c.in_ok-numbers-in-Q.ensures) c.loop-number-2-test.false c.loop-number-2.invariant) c.into_q.ensures)
