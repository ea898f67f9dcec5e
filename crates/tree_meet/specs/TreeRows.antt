-- The rows of a tree (Booth and Lueker, 1976): what its nodes ask of an order.
use Rattle.std.specs.Prelude.{ℕ, List, [], ◌∷◌, ◌++◌, map}
use Rattle.column_order.specs.Orders.{has}
use Rattle.row_model.specs.Rows.{columns_where}
use Rattle.pq_tree.specs.Outline.{Outline, Forest, leaf, p_node, q_node, no_tree, tree_and, leaves, leaves_of}

-- the leaves of a tree and of the first of the trees behind it together, and so on from each of these trees to the next
abbrev pub pairs_from : Outline → Forest → List (List ℕ)
pairs_from t no_tree = []
pairs_from t (tree_and u us) = (leaves t ++ leaves u) ∷ pairs_from u us

-- the leaves of each two neighbouring trees, from left to right
abbrev pub neighbours : Forest → List (List ℕ)
neighbours no_tree = []
neighbours (tree_and t ts) = pairs_from t ts

-- The groups of a tree, each node before its children and the children from left to right: a node that is no leaf
-- gives its leaves, and a Q-node gives next the leaves of each two neighbouring children.
abbrev mutual
  pub groups : Outline → List (List ℕ)
  groups (leaf a) = []
  groups (p_node ts) = leaves_of ts ∷ groups_of ts
  groups (q_node ts) = leaves_of ts ∷ (neighbours ts ++ groups_of ts)

  -- those of some trees, one tree after another
  pub groups_of : Forest → List (List ℕ)
  groups_of no_tree = []
  groups_of (tree_and t ts) = groups t ++ groups_of ts

-- the columns of a group in ascending order
abbrev pub row_of_group : ℕ → List ℕ → List ℕ
row_of_group c group = columns_where c (has group)

-- the rows of a tree over 1 to c: one for each of its groups
abbrev pub rows_of_tree : ℕ → Outline → List (List ℕ)
rows_of_tree c t = map (row_of_group c) (groups t)
