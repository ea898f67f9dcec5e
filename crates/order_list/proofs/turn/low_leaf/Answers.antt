use Rattle.std.proofs.Common.{◌∙◌, ap}
use Rattle.pq_tree.specs.Proper.{outline_of}
use Rattle.pq_tree.proofs.Shown.{outline_of-Leaf}
use Rattle.order_list.proofs.Turned.{low_leaf}
use Rattle.order_list.proofs.turn.low_leaf.Goals as goal

pub with_first-requires : goal.with_first-requires
with_first-requires c = low_leaf c.leaf.result c.args.column c.leaf.ensures

pub returns : goal.returns
returns c = c.with_first.ensures ∙ ap outline_of c.leaf.ensures ∙ outline_of-Leaf c.args.column
