use Rattle.std.proofs.Common.{◌≡◌, ◌∙◌, length, ap, arith}
use Rattle.column_order.proofs.Counts.{order_length}
use Rattle.pq_tree.specs.Outline.{leaves}
use Rattle.pq_tree.specs.Proper.{IsProper}
use Rattle.pq_tree.specs.PqTree.{column_count, outline}
use Rattle.bound_tree.proofs.stretch.of_tree.Goals as goal

pub push_tree-requires : goal.push_tree-requires
push_tree-requires c =
    let proper : IsProper (column_count c.args.tree.now) (outline c.args.tree.now) = c.args.tree.now.proper in
    let n : length (leaves (outline c.args.tree.now)) ≡ column_count c.args.tree.now = order_length (column_count c.args.tree.now) (leaves (outline c.args.tree.now)) proper.1 in
    omega (arith, ap (λ x. length (leaves x)) c.root.ensures ∙ n, c.columns.ensures, c.columns.type_inv)
