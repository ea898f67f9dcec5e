-- Canonical trees.
use Rattle.std.specs.Prelude.{ℕ, ◌<◌, ◌-◌, min, List, map, length, slice_index}
use Rattle.std.specs.List.Sorted.{IsStrictlyIncreasing}
use Rattle.pq_tree.specs.Outline.{Outline, Forest, leaf, p_node, q_node, no_tree, tree_and}
use Rattle.pq_tree.specs.Forests.{trees}
use Rattle.pq_tree.specs.Proper.{IsTree}

-- the lower of two numbers; the first alone where no tree is left
abbrev pub lower : ℕ → Forest → ℕ → ℕ
lower m no_tree n = m
lower m (tree_and t ts) n = min m n

-- the least column of a tree
abbrev mutual
  pub least : Outline → ℕ
  least (leaf a) = a
  least (p_node ts) = least_of ts
  least (q_node ts) = least_of ts

  -- the least column of the trees; 0 where there is none
  pub least_of : Forest → ℕ
  least_of no_tree = 0
  least_of (tree_and t ts) = lower (least t) ts (least_of ts)

-- the least column of each of the trees
abbrev pub leasts : Forest → List ℕ
leasts ts = map least (trees ts)

-- the first of the numbers is below the last
abbrev pub EndsRise : List ℕ → Type 0
EndsRise ms = slice_index ms 0 < slice_index ms (length ms - 1)

-- The least columns of each P-node's children strictly rise from left to right, and that of each Q-node's first child is
-- below that of its last child.
abbrev mutual
  pub IsCanonical : Outline → Type 0
  IsCanonical (leaf a) = Unit {0}
  IsCanonical (p_node ts) = IsStrictlyIncreasing (leasts ts) × AreCanonical ts
  IsCanonical (q_node ts) = EndsRise (leasts ts) × AreCanonical ts

  -- each of the trees is canonical
  pub AreCanonical : Forest → Type 0
  AreCanonical no_tree = Unit {0}
  AreCanonical (tree_and t ts) = IsCanonical t × AreCanonical ts

-- canonical, unless a node has too few children or a column stands twice
abbrev pub CanonicalIfTree : Outline → Type 0
CanonicalIfTree t = IsTree t → IsCanonical t

-- so each of the trees
abbrev pub AreCanonicalIfTrees : Forest → Type 0
AreCanonicalIfTrees no_tree = Unit {0}
AreCanonicalIfTrees (tree_and t ts) = CanonicalIfTree t × AreCanonicalIfTrees ts
