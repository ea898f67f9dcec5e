use Rattle.std.proofs.Common.{arith}
use Rattle.pq_tree.specs.PqTree.{column_count, outline}
use Rattle.tree_meet.proofs.Few.{rows_few}
use Rattle.tree_meet.proofs.rows.tree_rows.Goals as goal

pub new-requires : goal.new-requires
new-requires c =
    let few = rows_few (column_count c.args.tree.now) (outline c.args.tree.now) c.args.tree.now.proper in
    (omega (arith, few, c.columns.ensures), omega (arith, c.requires, c.columns.ensures))
