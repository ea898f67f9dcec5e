use Rattle.std.proofs.Common.{◌∙◌}
use Rattle.order_list.proofs.Turned.{stands_P, over_P}
use Rattle.order_list.proofs.turn.low_p.Goals as goal

pub with_first-requires : goal.with_first-requires
with_first-requires c = stands_P c.p.result c.in_ok-trees.trees c.args.children.items c.in_ok-trees.ensures.trees c.in_ok-trees.first c.p.ensures c.requires c.in_ok-trees.ensures.first

pub returns : goal.returns
returns c = c.with_first.ensures ∙ over_P c.p.result c.in_ok-trees.trees c.args.children.items c.in_ok-trees.ensures.trees c.p.ensures
