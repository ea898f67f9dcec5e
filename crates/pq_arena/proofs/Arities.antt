-- In a proper tree that is all of the forest each inner node has two children or more.
use Rattle.std.proofs.Common.{◌≡◌, inl, inr, ◌∙◌, ℕ, ◌≤◌, List, [], ◌∷◌, map, length, Some, None, refl, sym, subst, arith}
use Rattle.std.proofs.lemmas.Bool.{cases_eq}
use Rattle.std.proofs.lemmas.List.{length-map}
use Rattle.column_order.specs.Orders.{occurs}
use Rattle.pq_tree.proofs.Forests.{count_forest}
use Rattle.pq_tree.specs.Proper.{forest, count, HasArities, HaveArities}
use Rattle.arena_model.specs.declared.Shape.{Shape}
use Rattle.arena_model.specs.declared.Shape.TheVariants.{Leaf, P, Q}
use Rattle.arena_model.specs.Layout.{Layout, shape_at, children_at, IsAtOrAbove, here, down, MayHaveChildren, IsLayout}
use Rattle.arena_model.specs.NamedTree.{node_over, outline_below, outline_at, IsOneTree, HasTwoEach}
use Rattle.arena_model.proofs.Lists.{occurs_other}
use Rattle.arena_model.proofs.Slots.{used_by}
use Rattle.arena_model.proofs.Outlines.{below_children}

count_children : (f : Layout) (ks : List ℕ) → count (forest (map (outline_below f) ks)) ≡ length ks
count_children f ks = count_forest (map (outline_below f) ks) ∙ length-map ks (outline_below f)

child_arities : (f : Layout) (ks : List ℕ) (k : ℕ) → HaveArities (forest (map (outline_below f) ks)) → 1 ≤ occurs ks k → HasArities (outline_below f k)
child_arities f [] k h o = absurd (omega arith)
child_arities f (x ∷ xs) k h o = elim (cases_eq k x) [
  | inl e ↦ subst (λ z. HasArities (outline_below f z)) (sym e) h.0
  | inr ne ↦ child_arities f xs k h.1 (subst (λ z. 1 ≤ z) (occurs_other x k xs ne) o)
]

-- the arities at a node with children, whatever its shape is
inner_arities : (f : Layout) (s : Shape) (ks : List ℕ) (k : ℕ) → MayHaveChildren (Some s) ks → 1 ≤ occurs ks k →
    HasArities (node_over s (forest (map (outline_below f) ks))) → HasArities (outline_below f k)
inner_arities f (Leaf a) ks k may o h = absurd (let z : 1 ≤ occurs [] k = subst (λ xs. 1 ≤ occurs xs k) may o in omega arith)
inner_arities f P ks k may o h = child_arities f ks k h.1 o
inner_arities f Q ks k may o h = child_arities f ks k h.1 o

none_arities : (f : Layout) (n k : ℕ) → IsLayout f → shape_at f n ≡ None → 1 ≤ occurs (children_at f n) k → ⊥
none_arities f n k h e o =
    let z : children_at f n ≡ [] = subst (λ s. MayHaveChildren s (children_at f n)) e (h.children_fit n) in
    let y : 1 ≤ occurs [] k = subst (λ xs. 1 ≤ occurs xs k) z o in omega arith

at_shape : (f : Layout) (n k : ℕ) → IsLayout f → (o : _) → shape_at f n ≡ o → 1 ≤ occurs (children_at f n) k → HasArities (outline_below f n) → HasArities (outline_below f k)
at_shape f n k h None e o a = absurd (none_arities f n k h e o)
at_shape f n k h (Some s) e o a = inner_arities f s (children_at f n) k
    (subst (λ z. MayHaveChildren z (children_at f n)) e (h.children_fit n)) o (subst HasArities (below_children f n s h e) a)

-- the arities of a tree are those of each tree in it
arities_below : (f : Layout) (n x : ℕ) → IsLayout f → IsAtOrAbove f.slots n x → HasArities (outline_below f n) → HasArities (outline_below f x)
arities_below f _ _ h (here n) a = a
arities_below f _ _ h (down n k x o l) a = arities_below f k x h l (at_shape f n k h (shape_at f n) refl o a)

pub two_each : (f : Layout) → IsLayout f → IsOneTree f → HasArities (outline_at f) → HasTwoEach f
two_each f h one a n s = elim s [
  | inl e ↦ let b : HasArities (node_over P (forest (map (outline_below f) (children_at f n)))) = at P e in
      let k = b.0 in omega (arith, count_children f (children_at f n), k)
  | inr e ↦ let b : HasArities (node_over Q (forest (map (outline_below f) (children_at f n)))) = at Q e in
      let k = b.0 in omega (arith, count_children f (children_at f n), k)
]
  where
    at : (u : Shape) → shape_at f n ≡ Some u → HasArities (node_over u (forest (map (outline_below f) (children_at f n))))
    at u e = subst HasArities (below_children f n u h e) (arities_below f f.root n h (one n (used_by f n u e)) a)
