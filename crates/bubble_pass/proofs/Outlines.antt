-- The columns of a row at the leaves of an arena, and the pertinent root.
use Rattle.std.proofs.Common.{◌≡◌, ◌≢◌, inl, inr, ℕ, ◌+◌, ◌-◌, ◌≤◌, List, [], ◌∷◌, length, IsTrue, refl, sym, subst, arith}
use Rattle.column_order.specs.Orders.{occurs, has, IsWithin}
use Rattle.column_order.proofs.Lists.{has_from_occurs}
use Rattle.column_order.proofs.Counts.{order_once}
use Rattle.row_model.specs.Rows.{IsRow}
use Rattle.row_model.proofs.Ascending.{row_once, row_within}
use Rattle.pq_tree.specs.Outline.{leaves}
use Rattle.pq_tree.specs.Nodes.{IsPertinentRoot, pertinent_root}
use Rattle.pq_tree.proofs.Nodes.{holds_above, pertinent_root_is, pertinent_root_unique}
use Rattle.arena_model.specs.declared.Shape.TheVariants.{Leaf}
use Rattle.arena_model.specs.Layout.{Layout, children_at, IsInUse, IsLayout}
use Rattle.arena_model.specs.NamedTree.{outline_below, outline_at, IsOneTree, HasTwoEach}
use Rattle.arena_model.specs.RowLeaves.{column_leaves, Holds}
use Rattle.arena_model.proofs.Lists.{occurs_here}
use Rattle.arena_model.proofs.Slots.{used_by}
use Rattle.arena_model.proofs.Outlines.{one_order}
use Rattle.arena_model.proofs.Rows.{row_occurs, leaf_in_row}
use Rattle.arena_model.proofs.Nodes.{root_is}
use Rattle.bubble_pass.specs.Ends.{AreLeaves, IsFull}

-- the row's columns stand at leaves of the one tree
pub row_leaves : (f : Layout) (row : List ℕ) → IsLayout f → IsOneTree f → IsRow f.columns row → row ≢ [] → AreLeaves f (column_leaves row)
row_leaves f row h one r some = record {
  once = λ x. subst (λ z. z ≤ 1) (sym (row_occurs f.columns row x within)) (row_once f.columns row r (x + 1));
  used = λ x o. used_by f x (Leaf (x + 1)) (h.leaves x (leaf_in_row f row x within o).0);
  leaf = λ x o. (x + 1, h.leaves x (leaf_in_row f row x within o).0);
  below = λ x o. one x (used_by f x (Leaf (x + 1)) (h.leaves x (leaf_in_row f row x within o).0));
  some = first row some;
}
  where
    within : IsWithin f.columns row
    within = row_within f.columns row r

    first : (row : List ℕ) → row ≢ [] → (x : ℕ) × (1 ≤ occurs (column_leaves row) x)
    first [] n = absurd (n refl)
    first (a ∷ row) n = (a - 1, occurs_here (a - 1) (column_leaves row))

pub two_full : (f : Layout) → HasTwoEach f → IsFull f
two_full f h = record {
  of_p = λ n l s. let two : 2 ≤ length (children_at f n) = h n (inl s) in omega arith;
  of_q = λ n l s. let two : 2 ≤ length (children_at f n) = h n (inr s) in omega arith;
}

-- the tree at the pertinent root is the pertinent root of the tree
pub root_outline : (f : Layout) (row : List ℕ) (q : ℕ) → IsLayout f → IsOneTree f → IsRow f.columns row → row ≢ [] → IsInUse f q → Holds f (column_leaves row) q →
    ((k : ℕ) → 1 ≤ occurs (children_at f q) k → Holds f (column_leaves row) k → ⊥) → pertinent_root row (outline_at f) ≡ outline_below f q
root_outline f row q h one r some used holds_q least =
    let a = first row some in
    let p : IsPertinentRoot row (outline_at f) (outline_below f q) = root_is f row q h one (row_within f.columns row r) used holds_q least in
    pertinent_root_unique row a.0 a.1 (outline_at f) (pertinent_root row (outline_at f)) (outline_below f q)
    (order_once f.columns (leaves (outline_at f)) (one_order f h one))
    (pertinent_root_is row (outline_at f) (holds_above row (outline_below f q) (outline_at f) p.node p.whole)) p
  where
    first : (row : List ℕ) → row ≢ [] → (a : ℕ) × IsTrue (has row a)
    first [] n = absurd (n refl)
    first (a ∷ row) n = (a, has_from_occurs (a ∷ row) a (occurs_here a row))
