-- How often a tree can still be narrowed.
use Rattle.std.specs.Prelude.{ℕ, ◌+◌, ◌-◌, ◌*◌}
use Rattle.pq_tree.specs.Outline.{Outline, Forest, leaf, p_node, q_node, no_tree, tree_and}
use Rattle.pq_tree.specs.Forests.{count}

-- each P-node counts three less than twice its children, and each Q-node one
abbrev mutual
  pub slack : Outline → ℕ
  slack (leaf a) = 0
  slack (p_node ts) = (2 * count ts - 3) + slack_of ts
  slack (q_node ts) = 1 + slack_of ts

  -- the same of some trees together
  pub slack_of : Forest → ℕ
  slack_of no_tree = 0
  slack_of (tree_and t ts) = slack t + slack_of ts
