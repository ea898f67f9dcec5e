use Rattle.std.proofs.Common.{◌≡◌, ◌+◌, ◌*◌, ◌-◌, ◌^◌, ◌≤◌, ◌∷◌, false}
use Rattle.pq_tree.specs.Outline.{p_node}
use Rattle.pq_tree.specs.Proper.{outline_of, forest}
use Rattle.order_list.specs.Reading.{Reads}
use Rattle.order_list.specs.Coming.{outlines, coming_trees}
use Rattle.order_list.specs.Gains.{Gains}
use Rattle.order_list.specs.Weights.{walk_weight, walk_weights, weight_within}
use Rattle.order_list.proofs.Gaining.{Below}
use Rattle.order_list.proofs.walk.+walk.Given as goal

abbrev pub decreases-read_on : goal.decreases-read_on
decreases-read_on l = 8 * weight_within l.coming.now + 3

abbrev pub decreases-read_tree : goal.decreases-read_tree
decreases-read_tree l = 8 * (walk_weight (outline_of l.tree.now) + weight_within l.rest.now) + 2

abbrev pub decreases-each_next : goal.decreases-each_next
decreases-each_next l = 8 * (walk_weights (forest (outlines l.trees.now)) + weight_within l.rest.now) + 1

abbrev pub decreases-take : goal.decreases-take
decreases-take l = 8 * (walk_weights (forest (outlines l.trees.now)) + weight_within l.rest.now)

abbrev pub decreases-open : goal.decreases-open
decreases-open l = 8 * (walk_weight (outline_of l.tree.now) + weight_within l.rest.now) - 12

abbrev pub invariant-each_next-loop-next : goal.invariant-each_next-loop-next
invariant-each_next-loop-next l =
    record {
      columns : l.columns.items ≡ l.initial.columns.items;
      small : l.from ≤ 2 ^ 32;
      fresh : l.found.more ≡ false;
      gains : Gains (Below (Reads (p_node (forest (outlines l.trees)) ∷ coming_trees l.rest)) l.from) l.initial.columns.items l.limit l.initial.found l.found;
    }

abbrev pub decreases-each_next-loop-next : goal.decreases-each_next-loop-next
decreases-each_next-loop-next l = 2 ^ 32 - l.from
