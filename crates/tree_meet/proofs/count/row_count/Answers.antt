use Rattle.std.proofs.Common.{length, ap, arith}
use Rattle.std.proofs.lemmas.List.{length-map}
use Rattle.pq_tree.specs.Outline.{Outline}
use Rattle.pq_tree.specs.PqTree.{column_count, outline}
use Rattle.tree_meet.specs.TreeRows.{groups, row_of_group}
use Rattle.tree_meet.proofs.Few.{rows_few}
use Rattle.tree_meet.proofs.count.row_count.Goals as goal

pub count_tree-requires-clause-few : goal.count_tree-requires-clause-few
count_tree-requires-clause-few c =
    let n = column_count c.args.tree.now in
    let t = outline c.args.tree.now in
    omega (arith, c.requires, rows_few n t c.args.tree.now.proper, length-map (groups t) (row_of_group n), ap (λ (x : Outline). length (groups x)) c.root.ensures)
