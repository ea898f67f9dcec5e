-- The numbers by which Booth and Lueker (1976) bound the work of all reductions together.
use Rattle.std.specs.Prelude.{ℕ, ◌+◌, if◌then◌else◌, List}
use Rattle.column_order.specs.Orders.{has}
use Rattle.pq_tree.specs.Outline.{Outline, Forest, leaf, p_node, q_node, no_tree, tree_and, leaves_of}
use Rattle.pq_tree.specs.Forests.{count}
use Rattle.pq_tree.specs.Nodes.{meets, pertinent_root}

-- the number of nodes of the tree with a column of the row among their leaves, leaves and the tree itself included
abbrev mutual
  pub nodes_met : List ℕ → Outline → ℕ
  nodes_met row (leaf a) = if has row a then 1 else 0
  nodes_met row (p_node ts) = (if meets row (leaves_of ts) then 1 else 0) + nodes_met_of row ts
  nodes_met row (q_node ts) = (if meets row (leaves_of ts) then 1 else 0) + nodes_met_of row ts

  -- the number of such nodes of the trees
  pub nodes_met_of : List ℕ → Forest → ℕ
  nodes_met_of row no_tree = 0
  nodes_met_of row (tree_and t ts) = nodes_met row t + nodes_met_of row ts

-- the number of such nodes at the pertinent root and below it
abbrev pub nodes_met_below_root : List ℕ → Outline → ℕ
nodes_met_below_root row t = nodes_met row (pertinent_root row t)

-- the number of the tree's Q-nodes, and of the children of its P-nodes, together
abbrev mutual
  pub weight : Outline → ℕ
  weight (leaf a) = 0
  weight (p_node ts) = count ts + weight_of ts
  weight (q_node ts) = 1 + weight_of ts

  -- the same of some trees together
  pub weight_of : Forest → ℕ
  weight_of no_tree = 0
  weight_of (tree_and t ts) = weight t + weight_of ts
