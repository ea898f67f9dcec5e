-- Proper PQ-trees (Booth and Lueker, 1976) over the columns 1 to c.
pub use Rattle.pq_tree.specs.Forests.{forest, trees, count}
use Rattle.std.specs.Prelude.{ℕ, ◌≤◌, List, [], ◌∷◌, map, ◌++◌, nat_le, if◌then◌else◌}
use Rattle.std.proofs.Common.{zero, suc}
use Rattle.column_order.specs.Orders.{occurs, IsOrder}
use Rattle.pq_tree.specs.Outline.{Outline, Forest, leaf, p_node, q_node, no_tree, tree_and, leaves, leaves_of}
use Rattle.pq_tree.specs.declared.Tree.{Tree, Leaf, P', Q', Row_of-Tree, end_of-Tree, more_of-Tree}

-- the outline of a tree of the program
unfoldable mutual
  pub outline_of : Tree → Outline
  outline_of (Leaf a) = leaf a
  outline_of (P' shape all) = p_node (forest_of all)
  outline_of (Q' shape all) = q_node (forest_of all)

  -- the outlines of the children of a node
  pub forest_of : {n : _} → Row_of-Tree n → Forest
  forest_of end_of-Tree = no_tree
  forest_of (more_of-Tree t rest) = tree_and (outline_of t) (forest_of rest)

-- each P-node has two or more children, each Q-node three or more
abbrev mutual
  pub HasArities : Outline → Type 0
  HasArities (leaf a) = Unit {0}
  HasArities (p_node ts) = (2 ≤ count ts) × HaveArities ts
  HasArities (q_node ts) = (3 ≤ count ts) × HaveArities ts

  -- so in each of the trees
  pub HaveArities : Forest → Type 0
  HaveArities no_tree = Unit {0}
  HaveArities (tree_and t ts) = HasArities t × HaveArities ts

-- A tree in which each P-node has two or more children, each Q-node three or more, and no column stands at two leaves.
abbrev pub IsTree : Outline → Type 0
IsTree t = HasArities t × ((a : ℕ) → occurs (leaves t) a ≤ 1)

-- such trees, of which no two share a column
abbrev pub AreTrees : Forest → Type 0
AreTrees ts = HaveArities ts × ((a : ℕ) → occurs (leaves_of ts) a ≤ 1)

-- A proper tree over 1 to c: each P-node has two or more children, each Q-node three or more, and each of 1 to c, and no
-- other column, stands at exactly one leaf.
abbrev pub IsProper : ℕ → Outline → Type 0
IsProper c t = HasArities t × IsOrder c (leaves t)

-- the columns 1 to n
abbrev pub columns : ℕ → List ℕ
columns zero = []
columns (suc n) = columns n ++ suc n ∷ []

-- the universal tree: the leaf 1 for one column, else a P-node over all columns
abbrev pub universal : ℕ → Outline
universal c = (if nat_le c 1 then leaf 1 else p_node (forest (map leaf (columns c))))
