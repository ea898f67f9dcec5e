use Rattle.std.proofs.Common.{◌∙◌, Some, sym, subst, arith}
use Rattle.row_model.proofs.Ascending.{row_within}
use Rattle.arena_model.specs.RowLeaves.{column_leaves}
use Rattle.arena_model.proofs.Rows.{column_in}
use Rattle.full_pass.specs.Passing.{IsFoundEnd}
use Rattle.full_pass.specs.Tallies.{full_in}
use Rattle.full_pass.proofs.Columns.{leaf_held, row_leaves}
use Rattle.full_pass.proofs.ThreeParts.{found_between}
use Rattle.full_pass.proofs.beside.find_between.Goals.{in-Absent, in-Near+in-None, in-Near+in-Some+else-index}
use Rattle.full_pass.proofs.beside.find_between.Goals as goal

pub leaf-leaf-requires : goal.leaf-leaf-requires
leaf-leaf-requires g c =
    let r = column_in c.args.arena.now.columns c.args.row.now c.loop-column.column-index (row_within c.args.arena.now.columns c.args.row.now c.requires.row) c.loop-column-test.true in
    record { from = r.0; to = r.1 }

pub returns-then-index-clause-settled : goal.returns-then-index-clause-settled
returns-then-index-clause-settled g c =
    let first : IsFoundEnd c.args.arena.now (full_in c.args.labels.now c.args.stamp) (Some c.in-Some.first) =
    subst (λ z. IsFoundEnd c.args.arena.now (full_in c.args.labels.now c.args.stamp) z) c.in-Some.is c.loop-column.invariant.found in
    found_between c.args.arena.now (column_leaves c.args.row.now) c.args.labels.now c.args.tallies.now c.args.stamp
    c.in-Some.first.node.index c.in-Some.first.beside.index c.in-Near.end.node.index c.in-Near.end.beside.index c.layout_law.ensures
    (row_leaves c.args.arena.now c.args.row.now c.layout_law.ensures c.requires.tree c.requires.row) c.requires.three first
    (c.in-Near.ensures.above (column_leaves c.args.row.now) 3 c.requires.three.pass
    (leaf_held c.args.arena.now c.args.row.now c.loop-column.column-index c.leaf-leaf.result.index c.layout_law.ensures c.leaf-leaf.ensures c.loop-column-test.true))
    (λ e. c.if-index.true (c.index.ensures ∙ e ∙ sym c.index-in-Some.ensures))

pub loop-column-preserved : goal.loop-column-preserved
loop-column-preserved g c = record {
  found = elim c.match-ring_above.branch [
    | in-Absent w ↦ subst (λ z. IsFoundEnd c.args.arena.now (full_in c.args.labels.now c.args.stamp) z) (sym w.found-is) c.loop-column.invariant.found
    | in-Near+in-None w ↦ subst (λ z. IsFoundEnd c.args.arena.now (full_in c.args.labels.now c.args.stamp) z) (sym w.found-is)
        (w.in-Near.ensures.above (column_leaves c.args.row.now) 3 c.requires.three.pass
        (leaf_held c.args.arena.now c.args.row.now c.loop-column.column-index c.leaf-leaf.result.index c.layout_law.ensures c.leaf-leaf.ensures c.loop-column-test.true))
    | in-Near+in-Some+else-index w ↦ subst (λ z. IsFoundEnd c.args.arena.now (full_in c.args.labels.now c.args.stamp) z) (w.in-Some.is ∙ sym w.found-is) c.loop-column.invariant.found
  ];
  ticks = omega (arith, c.loop-column.invariant.ticks, c.ring_above.ensures.ticks);
}
