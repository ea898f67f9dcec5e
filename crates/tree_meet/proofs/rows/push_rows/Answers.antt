use Rattle.std.proofs.Common.{length, subst, sym, ap, arith}
use Rattle.std.proofs.lemmas.List.{length-map}
use Rattle.column_order.specs.Orders.{IsWithin}
use Rattle.column_order.proofs.Counts.{order_within}
use Rattle.pq_tree.specs.Outline.{Outline, leaves}
use Rattle.pq_tree.specs.Proper.{outline_of, IsProper}
use Rattle.pq_tree.specs.PqTree.{column_count, outline}
use Rattle.tree_meet.specs.TreeRows.{groups, row_of_group}
use Rattle.tree_meet.proofs.Few.{rows_few}
use Rattle.tree_meet.proofs.rows.push_rows.Goals as goal

pub push_tree-requires-clause-within : goal.push_tree-requires-clause-within
push_tree-requires-clause-within c =
    let n = column_count c.args.tree.now in
    let proper : IsProper n (outline c.args.tree.now) = c.args.tree.now.proper in
    subst (λ k. IsWithin k (leaves (outline_of c.root.result.now))) (sym c.requires.columns)
    (subst (λ (t : Outline). IsWithin n (leaves t)) (sym c.root.ensures) (order_within n (leaves (outline c.args.tree.now)) proper.1))

pub push_tree-requires-clause-room : goal.push_tree-requires-clause-room
push_tree-requires-clause-room c =
    let n = column_count c.args.tree.now in
    let t = outline c.args.tree.now in
    let few = rows_few n t c.args.tree.now.proper in
    omega (arith, c.requires.room, few, length-map (groups t) (row_of_group n), ap (λ (x : Outline). length (groups x)) c.root.ensures)
