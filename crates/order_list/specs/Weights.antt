-- How much of the walk is left, by which it ends.
use Rattle.std.specs.Prelude.{ℕ, ◌+◌, map}
use Rattle.pq_tree.specs.Outline.{Outline, Forest, leaf, p_node, q_node, no_tree, tree_and}
use Rattle.pq_tree.specs.Proper.{outline_of, forest}
use Rattle.order_list.specs.Coming.{outlines}
use Rattle.order_list.specs.declared.walk.Coming.{Coming, fold-Coming}
use Rattle.order_list.specs.declared.walk.Coming.TheOpen.{Coming-F}

-- twice the number of nodes, leaves included
abbrev mutual
  pub walk_weight : Outline → ℕ
  walk_weight (leaf a) = 2
  walk_weight (p_node ts) = 2 + walk_weights ts
  walk_weight (q_node ts) = 2 + walk_weights ts

  -- the same of some trees
  pub walk_weights : Forest → ℕ
  walk_weights no_tree = 0
  walk_weights (tree_and t ts) = walk_weight t + walk_weights ts

abbrev pub weight_step : Coming-F ℕ → ℕ
weight_step Coming-F.Nothing = 0
weight_step (Coming-F.InAnyOrder bag rest) = 1 + (walk_weights (forest (outlines bag.trees.now)) + rest.now)
weight_step (Coming-F.Forwards trees rest) = 1 + (walk_weights (forest (map outline_of trees.now)) + rest.now)
weight_step (Coming-F.Backwards trees rest) = 1 + (walk_weights (forest (map outline_of trees.now)) + rest.now)

-- the weight of all trees that come, and one for each link
abbrev pub weight_within : Coming → ℕ
weight_within = fold-Coming ℕ weight_step
