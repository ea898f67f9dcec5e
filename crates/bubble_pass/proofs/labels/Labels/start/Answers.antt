use Rattle.std.proofs.Common.{◌<◌, ◌≤◌, subst, sym}
use Rattle.row_model.proofs.Ascending.{row_within}
use Rattle.arena_model.specs.RowLeaves.{column_leaves}
use Rattle.arena_model.proofs.Rows.{column_in, leaf_is, leaves_length}
use Rattle.bubble_pass.proofs.Starts.{start_none, start_can, start_more, start_end, start_quiet}
use Rattle.bubble_pass.proofs.labels.Labels.start.Goals as goal

pub loop-i-init : goal.loop-i-init
loop-i-init c = start_none c.args.arena.now (column_leaves c.args.row.now) c.args.self.now c.requires.blank

pub leaf-requires : goal.leaf-requires
leaf-requires c =
    let r = column_in c.args.arena.now.columns c.args.row.now c.loop-i.i (row_within c.args.arena.now.columns c.args.row.now c.requires.columns) c.loop-i-test.true in
    record { from = r.0; to = r.1 }

pub add-requires : goal.add-requires
add-requires c =
    start_can c.args.arena.now (column_leaves c.args.row.now) c.args.self.now c.loop-i.self c.loop-i.i c.layout_law.ensures c.requires.row c.loop-i.invariant
    (subst (λ n. c.loop-i.i < n) (sym (leaves_length c.args.row.now)) c.loop-i-test.true)

pub returns : goal.returns
returns c = record {
  quiet = start_quiet c.args.arena.now (column_leaves c.args.row.now) c.args.climber.now c.args.self.now c.loop-i.self c.loop-i.i c.requires.blank c.loop-i.invariant;
  swept = start_end c.args.arena.now (column_leaves c.args.row.now) c.args.climber.now c.args.chains.now c.args.self.now c.loop-i.self c.loop-i.i c.layout_law.ensures c.requires.row c.requires.ground c.requires.blank c.loop-i.invariant
      (subst (λ n. n ≤ c.loop-i.i) (sym (leaves_length c.args.row.now)) c.loop-i-test.false);
}

pub loop-i-preserved : goal.loop-i-preserved
loop-i-preserved c =
    start_more c.args.arena.now (column_leaves c.args.row.now) c.args.self.now c.loop-i.self c.add.new.self c.loop-i.i c.leaf.result c.layout_law.ensures c.requires.row c.loop-i.invariant
    (subst (λ n. c.loop-i.i < n) (sym (leaves_length c.args.row.now)) c.loop-i-test.true)
    (leaf_is c.args.arena.now c.args.row.now c.loop-i.i c.leaf.result.index c.layout_law.ensures c.leaf.ensures) c.add.ensures
