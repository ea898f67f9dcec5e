-- What a look at a node shows.
use Rattle.std.specs.Prelude.{◌≡◌, ◌⊎◌, ℕ, cond, eqb, List, [], ◌∷◌, ◌++◌, Option, Some, None, length}
use Rattle.arena_model.specs.declared.Shape.{Shape}
use Rattle.arena_model.specs.declared.Shape.TheVariants.{Leaf, P, Q}
use Rattle.pq_arena.specs.declared.node.NodeId.{NodeId}
use Rattle.pq_arena.specs.declared.node.NodeView.{NodeView}
use Rattle.arena_model.specs.ChildLists.{head_or, last_or, end_parent, none}
use Rattle.arena_model.specs.Layout.{Layout, shape_at, children_at, times_child}

-- the node with this number, or none
abbrev pub node_named : ℕ → Option NodeId
node_named x = cond (eqb x none) None (Some (record { index = x }))

-- the ends that are shown of a node of this shape with these children
abbrev pub shown_ends : Shape → List ℕ → List (Option NodeId)
shown_ends (Leaf a) ks = None ∷ None ∷ []
shown_ends P ks = node_named (head_or ks none) ∷ None ∷ []
shown_ends Q ks = node_named (head_or ks none) ∷ node_named (last_or ks none) ∷ []

-- the number of children that is shown
abbrev pub shown_count : Shape → List ℕ → ℕ
shown_count (Leaf a) ks = 0
shown_count P ks = length ks
shown_count Q ks = 0

-- A view shows node n: its shape, its ends and its number of children; no parent and no neighbour where it is no child;
-- in a ring the node above, the child behind it and the one before it; in a run the two neighbours in either order, and
-- the node above at an end.
pub record ShowsNode (f : Layout) (n : ℕ) (view : NodeView) : Type 0 where
  pub shape_is : shape_at f n ≡ Some view.shape
  pub ends : view.ends ≡ shown_ends view.shape (children_at f n)
  pub children : view.children ≡ shown_count view.shape (children_at f n)
  pub top : times_child f.slots n ≡ 0 → (view.parent ≡ None) × (view.near ≡ None ∷ None ∷ [])
  pub ring : (p : ℕ) (us vs : List ℕ) → shape_at f p ≡ Some P → children_at f p ≡ us ++ n ∷ vs →
      (view.parent ≡ node_named p) × (view.near ≡ node_named (head_or vs (head_or us n)) ∷ node_named (last_or us (last_or vs n)) ∷ [])
  pub run : (q : ℕ) (us vs : List ℕ) → shape_at f q ≡ Some Q → children_at f q ≡ us ++ n ∷ vs →
      (view.parent ≡ node_named (end_parent q (last_or us none) (head_or vs none))) ×
      ((view.near ≡ node_named (last_or us none) ∷ node_named (head_or vs none) ∷ []) ⊎ (view.near ≡ node_named (head_or vs none) ∷ node_named (last_or us none) ∷ []))

-- the number of a node, or that of no node
abbrev pub index_or_none : Option NodeId → ℕ
index_or_none None = none
index_or_none (Some x) = x.index

-- the neighbour of a child between us and vs that stands before it, or the one behind it; none where there is none
abbrev pub IsBeside : Option NodeId → List ℕ → List ℕ → Type 0
IsBeside near us vs = (near ≡ node_named (last_or us none)) ⊎ (near ≡ node_named (head_or vs none))
