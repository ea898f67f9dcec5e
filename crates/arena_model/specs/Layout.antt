-- What an arena stands for: for each node its shape and its children in their order.
use Rattle.std.specs.Prelude.{◌≡◌, ◌≢◌, ℕ, ◌+◌, ◌*◌, ◌≤◌, ◌<◌, List, [], ◌∷◌, ◌++◌, Option, Some, None, slice_index_or, length, set, sum_by}
use Rattle.arena_model.specs.ChildLists.{all_but_first}
use Rattle.column_order.specs.declared.TheConstants.{COLUMN_BOUND}
use Rattle.column_order.specs.Orders.{occurs}
use Rattle.arena_model.specs.declared.Shape.{Shape}
use Rattle.arena_model.specs.declared.Shape.TheVariants.{Leaf, P, Q}

-- One node: its shape, none where it is spare, and its children from left to right.
pub record Slot : Type 0 where
  pub shape : Option Shape
  pub children : List ℕ

-- All nodes by their numbers, the root, the spare nodes in the order in which they are taken, and the number of columns.
pub record Layout : Type 0 where
  pub slots : List Slot
  pub root : ℕ
  pub spares : List ℕ
  pub columns : ℕ

-- a spare node, and whatever lies past the last node
abbrev pub spare_slot : Slot
spare_slot = record { shape = None; children = [] }

-- the node of number n
abbrev pub slot : List Slot → ℕ → Slot
slot slots n = slice_index_or slots n spare_slot

-- the shape of node n; none where it is spare
abbrev pub shape_at : Layout → ℕ → Option Shape
shape_at f n = (slot f.slots n).shape

-- the children of node n from left to right
abbrev pub children_at : Layout → ℕ → List ℕ
children_at f n = (slot f.slots n).children

-- how often node x is a child
abbrev pub times_child : List Slot → ℕ → ℕ
times_child slots x = sum_by (λ s. occurs s.children x) slots

-- every way down from the node ends
pub data IsGrounded (slots : List Slot) : ℕ → Type 0 where
  grounded : (n : ℕ) → ((k : ℕ) → 1 ≤ occurs (slot slots n).children k → IsGrounded slots k) → IsGrounded slots n

-- 1 for a node in use, 0 for a spare one
abbrev pub used_one : Option Shape → ℕ
used_one None = 0
used_one (Some s) = 1

-- the number of nodes in use
abbrev pub used_count : List Slot → ℕ
used_count [] = 0
used_count (s ∷ ss) = used_one s.shape + used_count ss

-- the first node is the second, or above it
pub data IsAtOrAbove (slots : List Slot) : ℕ → ℕ → Type 0 where
  here : (n : ℕ) → IsAtOrAbove slots n n
  down : (n k x : ℕ) → 1 ≤ occurs (slot slots n).children k → IsAtOrAbove slots k x → IsAtOrAbove slots n x

-- the node isn't spare
abbrev pub IsInUse : Layout → ℕ → Type 0
IsInUse f n = shape_at f n ≢ None

-- the shape is that of a leaf
abbrev pub IsLeaf : Shape → Type 0
IsLeaf (Leaf a) = Unit {0}
IsLeaf P = ⊥
IsLeaf Q = ⊥

-- the node is in use, has no node above it, and isn't the root
pub record StandsAlone (f : Layout) (n : ℕ) : Type 0 where
  pub used : IsInUse f n
  pub apart : times_child f.slots n ≡ 0
  pub other : n ≢ f.root

-- only P-nodes and Q-nodes have children
abbrev pub MayHaveChildren : Option Shape → List ℕ → Type 0
MayHaveChildren None ks = ks ≡ []
MayHaveChildren (Some (Leaf a)) ks = ks ≡ []
MayHaveChildren (Some P) ks = Unit {0}
MayHaveChildren (Some Q) ks = Unit {0}

-- A forest over c columns, of which one tree is that of the root: each node is a child at most once, only nodes in use
-- are children, no node is above itself, node a - 1 and no other is the leaf of column a, and each spare node is listed once.
pub record IsLayout (f : Layout) : Type 0 where
  pub once : (x : ℕ) → times_child f.slots x ≤ 1
  pub used : (x : ℕ) → 1 ≤ times_child f.slots x → IsInUse f x
  pub children_fit : (m : ℕ) → MayHaveChildren (shape_at f m) (children_at f m)
  pub grounds : (m : ℕ) → IsGrounded f.slots m
  pub root_used : IsInUse f f.root
  pub root_top : times_child f.slots f.root ≡ 0
  pub leaves : (a : ℕ) → a < f.columns → shape_at f a ≡ Some (Leaf (a + 1))
  pub no_other_leaf : (m a : ℕ) → shape_at f m ≡ Some (Leaf a) → (a ≡ m + 1) × (m < f.columns)
  pub some : 1 ≤ f.columns
  pub few : f.columns ≤ COLUMN_BOUND
  pub size : length f.slots ≡ 2 * f.columns + 4
  pub spare_once : (x : ℕ) → occurs f.spares x ≤ 1
  pub spare_free : (x : ℕ) → 1 ≤ occurs f.spares x → (shape_at f x ≡ None) × (x < length f.slots)
  pub spare_all : (x : ℕ) → x < length f.slots → shape_at f x ≡ None → 1 ≤ occurs f.spares x

-- n is a child of a P-node
abbrev pub IsChildOfP : Layout → ℕ → Type 0
IsChildOfP f n = (p : ℕ) × (shape_at f p ≡ Some P) × (1 ≤ occurs (children_at f p) n)

-- node p has these children
abbrev pub with_children : Layout → ℕ → List ℕ → Layout
with_children f p ks = record f { slots = set f.slots p (record { shape = shape_at f p; children = ks }) }

-- x, the first spare node, has this shape and no children
abbrev pub taken : Layout → ℕ → Shape → Layout
taken f x s = record f { slots = set f.slots x (record { shape = Some s; children = [] }); spares = all_but_first f.spares }

-- n is spare, and the next to be taken
abbrev pub given_back : Layout → ℕ → Layout
given_back f n = record f { slots = set f.slots n spare_slot; spares = n ∷ f.spares }

-- the Q-node q has these children, among them those of its child, which is given back
abbrev pub spliced : Layout → ℕ → ℕ → List ℕ → Layout
spliced f q child ks = given_back (with_children f q ks) child

-- child is a Q-node with two children or more, between us and vs among the children of the Q-node q
pub record IsSpliceAt (f : Layout) (q child : ℕ) (us vs : List ℕ) : Type 0 where
  pub q_shape : shape_at f q ≡ Some Q
  pub child_shape : shape_at f child ≡ Some Q
  pub at : children_at f q ≡ us ++ child ∷ vs
  pub some : 2 ≤ length (children_at f child)
