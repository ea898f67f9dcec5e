use Rattle.std.proofs.Common.{◌≡◌, length, slice_get, Some, refl}
use Rattle.std.proofs.lemmas.Option.{slice_get_read}
use Rattle.walk_search.specs.declared.forest.Node.{Node}
use Rattle.walk_search.proofs.closing.node_below_root.Goals as goal

pub returns : goal.returns
returns c =
    let nodes = c.args.forest.now.nodes.items in
    let node : Node = c.index.result.now in
    let there : slice_get nodes c.args.at ≡ Some node = slice_get_read nodes (length nodes) c.args.at node refl c.requires.above.1 c.index.ensures in
    record { there = there; before = c.requires.tree.parents c.args.at node there c.requires.above.0 }
