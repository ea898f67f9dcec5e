-- The children of a node, one after another: their columns, where they stand in a line, and what they are.
use Rattle.std.proofs.Common.{◌≡◌, ◌⊎◌, ◌∙◌, ℕ, ◌+◌, ◌<◌, ◌≤◌, List, ◌++◌, length, length-append, map, take, drop, get_or, IsTrue, sym, ap, subst, inl, inr, arith}
use Rattle.std.proofs.lemmas.List.{map-append, take-append-drop, take_all}
use Rattle.std.specs.declared.vec.Vec.{Vec}
use Rattle.std.specs.declared.alloc.Global.{Global}
use Rattle.column_order.specs.Orders.{has}
use Rattle.column_order.proofs.Lists.{has_append_cases, has_append_right}
use Rattle.row_model.specs.Graph.{pair}
use Rattle.pq_tree.specs.Outline.{Forest, no_tree, tree_and, leaves, leaves_of}
use Rattle.pq_tree.specs.Forests.{join}
use Rattle.pq_tree.specs.Proper.{outline_of, forest, HasArities, HaveArities}
use Rattle.pq_tree.specs.declared.Tree.{Tree, P, Q}
use Rattle.pq_tree.proofs.Forests.{forest_append, arities_join_right, leaves_of-join}
use Rattle.pq_tree.proofs.Shown.{leaves_of_node, front_more}
use Rattle.tree_theory.specs.Tied.{IsForward}
use Rattle.verdict_check.specs.Complete.{RunsFrom}
use Rattle.pq_tree.proofs.Shown.{rest_at}
use Rattle.verdict_check.proofs.Places.{stands_left, stands_right}

-- the columns of some trees of the program
abbrev pub columns_of : List Tree → List ℕ
columns_of ts = leaves_of (forest (map outline_of ts))

-- the outlines of the first trees and of the others
pub parted : (ts : List Tree) (i : ℕ) → forest (map outline_of ts) ≡ join (forest (map outline_of (take i ts))) (forest (map outline_of (drop i ts)))
parted ts i =
    ap (λ z. forest (map outline_of z)) (sym (take-append-drop i ts)) ∙ ap forest (map-append outline_of (take i ts) (drop i ts)) ∙ forest_append (map outline_of (take i ts)) (map outline_of (drop i ts))

-- their columns
pub columns_parted : (ts : List Tree) (i : ℕ) → columns_of ts ≡ columns_of (take i ts) ++ columns_of (drop i ts)
columns_parted ts i = ap leaves_of (parted ts i) ∙ leaves_of-join (forest (map outline_of (take i ts))) (forest (map outline_of (drop i ts)))

-- the columns of a node over its children
pub node_columns : (t : Tree) (v : Vec Tree Global) (ts : List Tree) → (t ≡ P v) ⊎ (t ≡ Q v) → ts ≡ v.items → leaves (outline_of t) ≡ columns_of ts
node_columns t v ts h s = leaves_of_node t v h ∙ ap (λ x. leaves_of (forest (map outline_of x))) (sym s)

-- a pair goes forward from one of the first trees to one of the others
pub forward_across : (us vs : Forest) (a b : ℕ) → IsTrue (has (leaves_of us) a) → IsTrue (has (leaves_of vs) b) → IsForward (join us vs) (pair a b)
forward_across no_tree vs a b h k = absurd cc
forward_across (tree_and t us) vs a b h k =
    elim (has_append_cases (leaves t) (leaves_of us) a h) [
      | inl here ↦ inl (here, subst (λ xs. IsTrue (has xs b)) (sym (leaves_of-join us vs)) (has_append_right (leaves_of us) (leaves_of vs) b k))
      | inr later ↦ inr (forward_across us vs a b later k)
    ]

module _ (ts : List Tree) (i : ℕ) (child : Tree) (lt : i < length ts) (is : child ≡ get_or ts i child) where
  -- the columns of the first children and of one child more
  pub front_next : columns_of (take (i + 1) ts) ≡ columns_of (take i ts) ++ leaves (outline_of child)
  front_next = front_more ts i child lt ∙ ap (λ t. columns_of (take i ts) ++ leaves (outline_of t)) (sym is)

  -- the columns of the children: those of the first ones, of one child, and of the rest
  pub around : columns_of ts ≡ columns_of (take i ts) ++ (leaves (outline_of child) ++ columns_of (drop (i + 1) ts))
  around = columns_parted ts i ∙ ap (λ f. columns_of (take i ts) ++ leaves_of f) (rest_at ts i child lt is)

  pub child_long : length (columns_of (take i ts)) + length (leaves (outline_of child)) ≤ length (columns_of ts)
  child_long =
      omega (arith, ap length around, length-append (columns_of (take i ts)) (leaves (outline_of child) ++ columns_of (drop (i + 1) ts)), length-append (leaves (outline_of child)) (columns_of (drop (i + 1) ts)))

  -- a child has enough children of its own
  pub child_arities : HaveArities (forest (map outline_of ts)) → HasArities (outline_of child)
  child_arities h =
      let rest : HaveArities (forest (map outline_of (drop i ts))) = arities_join_right (forest (map outline_of (take i ts))) (forest (map outline_of (drop i ts))) (subst HaveArities (parted ts i) h) in
      let next : HaveArities (tree_and (outline_of child) (forest (map outline_of (drop (i + 1) ts)))) = subst HaveArities (rest_at ts i child lt is) rest in
      next.0

module _ (l : List ℕ) (ts : List Tree) (s i at : ℕ) (child : Tree) (lt : i < length ts) (is : child ≡ get_or ts i child) (h : RunsFrom l s (columns_of ts)) (e : at ≡ s + length (columns_of (take i ts))) where
  -- where the columns of a child stand
  pub child_stands : RunsFrom l at (leaves (outline_of child))
  child_stands =
      subst (λ n. RunsFrom l n (leaves (outline_of child))) (sym e)
      (stands_left l (leaves (outline_of child)) (columns_of (drop (i + 1) ts)) (s + length (columns_of (take i ts)))
      (stands_right l (columns_of (take i ts)) (leaves (outline_of child) ++ columns_of (drop (i + 1) ts)) s (subst (RunsFrom l s) (around ts i child lt is) h)))

  -- where the next child begins
  pub next_at : at + length (leaves (outline_of child)) ≡ s + length (columns_of (take (i + 1) ts))
  next_at = omega (arith, e, ap length (front_next ts i child lt is), length-append (columns_of (take i ts)) (leaves (outline_of child)))

  pub next_within : at + length (leaves (outline_of child)) ≤ s + length (columns_of ts)
  next_within = omega (arith, e, child_long ts i child lt is)

-- all children are behind
pub at_end : (ts : List Tree) (i s at : ℕ) → length ts ≤ i → at ≡ s + length (columns_of (take i ts)) → at ≡ s + length (columns_of ts)
at_end ts i s at l e = e ∙ ap (λ z. s + length (columns_of z)) (take_all i ts l)
