-- Trees that stand so that each part begins with the least column with which it can.
use Rattle.std.specs.Prelude.{ℕ, ◌≤◌}
use Rattle.pq_tree.specs.Outline.{Outline, Forest, leaf, p_node, q_node, no_tree, tree_and}
use Rattle.pq_tree.specs.Forests.{back}

-- the first column of a tree as it stands
abbrev mutual
  pub first_column : Outline → ℕ
  first_column (leaf a) = a
  first_column (p_node ts) = first_of ts
  first_column (q_node ts) = first_of ts

  -- the first column of the first tree; 0 where there is none
  pub first_of : Forest → ℕ
  first_of no_tree = 0
  first_of (tree_and t ts) = first_column t

-- no tree's first column is below the bound
abbrev pub AreFrom : ℕ → Forest → Type 0
AreFrom m no_tree = Unit {0}
AreFrom m (tree_and t ts) = (m ≤ first_column t) × AreFrom m ts

-- the first columns of the trees rise
abbrev pub FirstsRise : Forest → Type 0
FirstsRise no_tree = Unit {0}
FirstsRise (tree_and t ts) = AreFrom (first_column t) ts × FirstsRise ts

-- the first column of the first tree is not above that of the last
abbrev pub EndsLow : Forest → Type 0
EndsLow ts = first_of ts ≤ first_of (back ts)

-- the first columns of each P-node's children rise, and so do those of the two ends of each Q-node
abbrev mutual
  pub StandsLow : Outline → Type 0
  StandsLow (leaf a) = Unit {0}
  StandsLow (p_node ts) = FirstsRise ts × StandLow ts
  StandsLow (q_node ts) = EndsLow ts × StandLow ts

  -- so in each of the trees
  pub StandLow : Forest → Type 0
  StandLow no_tree = Unit {0}
  StandLow (tree_and t ts) = StandsLow t × StandLow ts
