-- The nodes of a tree, and the smallest of them that holds a row (Booth and Lueker, 1976: the pertinent root).
use Rattle.std.specs.Prelude.{◌≡◌, ◌⊎◌, ℕ, Bool, false, ◌||◌, if◌then◌else◌, List, [], ◌∷◌, IsTrue, IsFalse}
use Rattle.std.specs.List.{list_all}
use Rattle.column_order.specs.Orders.{has}
use Rattle.pq_tree.specs.Outline.{Outline, Forest, leaf, p_node, q_node, no_tree, tree_and, leaves}

-- the children of a tree from left to right; a leaf has none
abbrev pub children : Outline → Forest
children (leaf a) = no_tree
children (p_node ts) = ts
children (q_node ts) = ts

-- x is a node of the tree, a leaf or the tree itself included
abbrev mutual
  pub IsNode : Outline → Outline → Type 0
  IsNode x (leaf a) = x ≡ leaf a
  IsNode x (p_node ts) = (x ≡ p_node ts) ⊎ IsNodeOf x ts
  IsNode x (q_node ts) = (x ≡ q_node ts) ⊎ IsNodeOf x ts

  -- x is a node of one of the trees
  pub IsNodeOf : Outline → Forest → Type 0
  IsNodeOf x no_tree = ⊥
  IsNodeOf x (tree_and t ts) = IsNode x t ⊎ IsNodeOf x ts

-- whether the row has one of the columns
abbrev pub meets : List ℕ → List ℕ → Bool
meets row [] = false
meets row (a ∷ xs) = has row a || meets row xs

-- whether each column of the row stands in the tree
abbrev pub holds : List ℕ → Outline → Bool
holds row t = list_all (λ a. has (leaves t) a) row

-- none of the trees holds the row
abbrev pub NoneHolds : List ℕ → Forest → Type 0
NoneHolds row no_tree = Unit {0}
NoneHolds row (tree_and t ts) = IsFalse (holds row t) × NoneHolds row ts

-- x is the pertinent root of the row in t, the smallest node that holds it: no child of x does
pub record IsPertinentRoot (row : List ℕ) (t x : Outline) : Type 0 where
  pub node : IsNode x t
  pub whole : IsTrue (holds row x)
  pub smallest : NoneHolds row (children x)

abbrev mutual
  -- the pertinent root of the row in a tree that holds it
  pub pertinent_root : List ℕ → Outline → Outline
  pertinent_root row (leaf a) = leaf a
  pertinent_root row (p_node ts) = root_among row ts (p_node ts)
  pertinent_root row (q_node ts) = root_among row ts (q_node ts)

  -- the one in the first of the trees that holds the row, or x where none of them does
  pub root_among : List ℕ → Forest → Outline → Outline
  root_among row no_tree x = x
  root_among row (tree_and t ts) x = if holds row t then pertinent_root row t else root_among row ts x
