use Rattle.row_model.proofs.Ascending.{row_within}
use Rattle.arena_model.specs.RowLeaves.{column_leaves}
use Rattle.arena_model.proofs.Rows.{column_in}
use Rattle.full_pass.proofs.Columns.{leaf_held, row_leaves}
use Rattle.full_pass.proofs.TwoParts.{found_beside}
use Rattle.full_pass.proofs.beside.find_beside.Goals as goal

pub returns-in-Near-clause-settled : goal.returns-in-Near-clause-settled
returns-in-Near-clause-settled g c =
    found_beside c.args.arena.now (column_leaves c.args.row.now) c.args.labels.now c.args.tallies.now c.args.stamp c.in-Near.end.node.index c.in-Near.end.beside.index c.layout_law.ensures
    (row_leaves c.args.arena.now c.args.row.now c.layout_law.ensures c.requires.tree c.requires.row) c.requires.two
    (c.in-Near.ensures.above (column_leaves c.args.row.now) 2 c.requires.two.pass
    (leaf_held c.args.arena.now c.args.row.now c.loop-column.column-index c.leaf-leaf.result.index c.layout_law.ensures c.leaf-leaf.ensures c.loop-column-test.true))

pub leaf-leaf-requires : goal.leaf-leaf-requires
leaf-leaf-requires g c =
    let r = column_in c.args.arena.now.columns c.args.row.now c.loop-column.column-index (row_within c.args.arena.now.columns c.args.row.now c.requires.row) c.loop-column-test.true in
    record { from = r.0; to = r.1 }
