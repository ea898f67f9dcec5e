-- The tree that hangs at a node of an arena: with the numbers of its nodes, and without them.
use Rattle.std.specs.Prelude.{◌≡◌, ◌⊎◌, ℕ, zero, suc, ◌+◌, ◌≤◌, max, List, [], ◌∷◌, ◌++◌, map, length, Option, Some, None}
use Rattle.pq_tree.specs.Outline.{Outline, Forest, leaf, p_node, q_node, no_tree, tree_and}
use Rattle.pq_tree.specs.Proper.{forest}
use Rattle.arena_model.specs.declared.Shape.{Shape}
use Rattle.arena_model.specs.declared.Shape.TheVariants.{Leaf, P, Q}
use Rattle.arena_model.specs.Layout.{Slot, Layout, slot, shape_at, children_at, IsInUse, IsAtOrAbove}

-- a tree is the number and the shape of its top node, over a list of trees
mutual
  pub data NamedTree : Type 0 where
    named_tree : ℕ → Shape → NamedTrees → NamedTree

  -- a list of such trees
  pub data NamedTrees : Type 0 where
    no_named : NamedTrees
    named_and : NamedTree → NamedTrees → NamedTrees

-- the number of the top node
abbrev pub top_name : NamedTree → ℕ
top_name (named_tree n s ts) = n

-- the numbers of the top nodes
abbrev pub top_names : NamedTrees → List ℕ
top_names no_named = []
top_names (named_and t ts) = top_name t ∷ top_names ts

-- each node of the tree has in the arena the shape and the children that it has in the tree
abbrev mutual
  pub IsAt : List Slot → NamedTree → Type 0
  IsAt slots (named_tree n s ts) = (slot slots n ≡ record { shape = Some s; children = top_names ts }) × AreAt slots ts

  -- so each tree of the list
  pub AreAt : List Slot → NamedTrees → Type 0
  AreAt slots no_named = Unit {0}
  AreAt slots (named_and t ts) = IsAt slots t × AreAt slots ts

-- the numbers of all nodes, each before those below it
abbrev mutual
  pub node_names : NamedTree → List ℕ
  node_names (named_tree n s ts) = n ∷ node_names_of ts

  pub node_names_of : NamedTrees → List ℕ
  node_names_of no_named = []
  node_names_of (named_and t ts) = node_names t ++ node_names_of ts

-- the number of nodes on the longest way down
abbrev mutual
  pub height : NamedTree → ℕ
  height (named_tree n s ts) = 1 + heights ts

  pub heights : NamedTrees → ℕ
  heights no_named = 0
  heights (named_and t ts) = max (height t) (heights ts)

-- the node of this shape over these trees
abbrev pub node_over : Shape → Forest → Outline
node_over (Leaf a) ts = leaf a
node_over P ts = p_node ts
node_over Q ts = q_node ts

-- the tree without the numbers
abbrev mutual
  pub outline_named : NamedTree → Outline
  outline_named (named_tree n s ts) = node_over s (outlines_named ts)

  pub outlines_named : NamedTrees → Forest
  outlines_named no_named = no_tree
  outlines_named (named_and t ts) = tree_and (outline_named t) (outlines_named ts)

-- the node of a slot over these trees; a spare slot has no tree, and this gives it one
abbrev pub slot_over : Option Shape → Forest → Outline
slot_over None ts = p_node no_tree
slot_over (Some s) ts = node_over s ts

-- The tree at node n without the numbers, as it is read downwards, at most as many levels as the first number says.
unfoldable pub outline_read : ℕ → List Slot → ℕ → Outline
outline_read zero slots n = p_node no_tree
outline_read (suc levels) slots n = slot_over (slot slots n).shape (forest (map (outline_read levels slots) (slot slots n).children))

-- the tree at node n without the numbers: no way down has more nodes than there are
abbrev pub outline_below : Layout → ℕ → Outline
outline_below f n = outline_read (length f.slots) f.slots n

-- the tree at the root without the numbers
abbrev pub outline_at : Layout → Outline
outline_at f = outline_below f f.root

-- each node in use is at or below the root: one tree, and no node stands alone
abbrev pub IsOneTree : Layout → Type 0
IsOneTree f = (n : ℕ) → IsInUse f n → IsAtOrAbove f.slots f.root n

-- each P-node and each Q-node has two children or more
abbrev pub HasTwoEach : Layout → Type 0
HasTwoEach f = (n : ℕ) → (shape_at f n ≡ Some P) ⊎ (shape_at f n ≡ Some Q) → 2 ≤ length (children_at f n)
