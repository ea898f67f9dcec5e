use Rattle.std.proofs.Common.{◌≡◌, ◌+◌, take, map}
use Rattle.pq_tree.specs.Proper.{outline_of, forest}
use Rattle.solve_replies.specs.Summaries.{inner_sum_of}
use Rattle.solve_replies.proofs.nodes.+nodes.Given as goal

-- the nodes of the first trees are counted
abbrev pub invariant-count_all-loop-tree : goal.invariant-count_all-loop-tree
invariant-count_all-loop-tree l =
    (l.nodes.p ≡ l.initial.nodes.p + inner_sum_of 1 0 (forest (map outline_of (take l.tree-index l.trees)))) ×
    (l.nodes.q ≡ l.initial.nodes.q + inner_sum_of 0 1 (forest (map outline_of (take l.tree-index l.trees))))
