-- How many levels a tree has, which falls from a node to its children.
use Rattle.std.proofs.Common.{◌≡◌, inl, inr, ℕ, ◌+◌, ◌≤◌, ◌<◌, max, List, [], ◌∷◌, map, Some, sym, subst, arith}
use Rattle.std.proofs.lemmas.Bool.{cases_eq}
use Rattle.column_order.specs.Orders.{occurs}
use Rattle.pq_tree.specs.Outline.{Outline, Forest, leaf, p_node, q_node, no_tree, tree_and}
use Rattle.pq_tree.specs.Proper.{forest}
use Rattle.arena_model.specs.declared.Shape.{Shape}
use Rattle.arena_model.specs.declared.Shape.TheVariants.{Leaf, P, Q}
use Rattle.arena_model.specs.Layout.{Layout, shape_at, children_at, MayHaveChildren, IsLayout}
use Rattle.arena_model.specs.NamedTree.{outline_below}
use Rattle.arena_model.proofs.Lists.{occurs_other}
use Rattle.arena_model.proofs.Outlines.{below_children}

abbrev mutual
  pub levels : Outline → ℕ
  levels (leaf a) = 0
  levels (p_node ts) = 1 + levels_of ts
  levels (q_node ts) = 1 + levels_of ts

  pub levels_of : Forest → ℕ
  levels_of no_tree = 0
  levels_of (tree_and t ts) = max (levels t) (levels_of ts)

levels_among : (g : ℕ → Outline) (ks : List ℕ) (k : ℕ) → 1 ≤ occurs ks k → levels (g k) ≤ levels_of (forest (map g ks))
levels_among g [] k o = absurd (omega arith)
levels_among g (x ∷ ks) k o = elim (cases_eq k x) [
  | inl e ↦ subst (λ z. levels (g z) ≤ levels_of (forest (map g (x ∷ ks)))) (sym e) (omega arith)
  | inr ne ↦ let r : levels (g k) ≤ levels_of (forest (map g ks)) = levels_among g ks k (subst (λ z. 1 ≤ z) (occurs_other x k ks ne) o) in omega arith
]

pub child_lower : (f : Layout) (n k : ℕ) (s : Shape) → IsLayout f → shape_at f n ≡ Some s → 1 ≤ occurs (children_at f n) k →
    levels (outline_below f k) < levels (outline_below f n)
child_lower f n k (Leaf a) h sh o =
    absurd (let z : 1 ≤ occurs [] k = subst (λ ks. 1 ≤ occurs ks k) (subst (λ t. MayHaveChildren t (children_at f n)) sh (h.children_fit n)) o in omega arith)
child_lower f n k P h sh o = let l : levels (outline_below f k) ≤ levels_of (forest (map (outline_below f) (children_at f n))) = levels_among (outline_below f) (children_at f n) k o in
    subst (λ t. levels (outline_below f k) < levels t) (sym (below_children f n P h sh)) (omega arith)
child_lower f n k Q h sh o = let l : levels (outline_below f k) ≤ levels_of (forest (map (outline_below f) (children_at f n))) = levels_among (outline_below f) (children_at f n) k o in
    subst (λ t. levels (outline_below f k) < levels t) (sym (below_children f n Q h sh)) (omega arith)
