use Rattle.std.proofs.Common.{◌≡◌, [], ◌∷◌, ◌++◌, ◌<◌, length, get_or, take, sym, subst, ap, ◌∙◌}
use Rattle.std.proofs.lemmas.List.{take_more}
use Rattle.column_order.specs.Orders.{occurs}
use Rattle.row_model.proofs.Ascending.{row_within}
use Rattle.arena_model.specs.declared.Shape.TheVariants.{Leaf}
use Rattle.arena_model.specs.RowLeaves.{column_leaves}
use Rattle.arena_model.proofs.Lists.{occurs_at}
use Rattle.arena_model.proofs.Rows.{column_in, leaf_is, leaves_length}
use Rattle.arena_model.proofs.Slots.{used_by}
use Rattle.bubble_pass.specs.Moves.{CanPush}
use Rattle.bubble_pass.specs.Ends.{IsQueueing}
use Rattle.bubble_pass.proofs.Begins.{begun_none, begun_more, row_new, can_push}
use Rattle.bubble_pass.proofs.climber.Climber.begin.Goals as goal

pub loop-column-init : goal.loop-column-init
loop-column-init c = begun_none c.args.arena.now c.args.self.now c.layout_law.ensures c.requires.clear

pub leaf-requires : goal.leaf-requires
leaf-requires c =
    let r = column_in c.args.arena.now.columns c.args.row.now c.loop-column.column-index (row_within c.args.arena.now.columns c.args.row.now c.requires.columns) c.loop-column-test.true in
    record { from = r.0; to = r.1 }

pub push-requires : goal.push-requires
push-requires c =
    let lt : c.loop-column.column-index < length (column_leaves c.args.row.now) = subst (λ n. c.loop-column.column-index < n) (sym (leaves_length c.args.row.now)) c.loop-column-test.true in
    subst (λ n. CanPush c.loop-column.self n) (sym (leaf_is c.args.arena.now c.args.row.now c.loop-column.column-index c.leaf.result.index c.layout_law.ensures c.leaf.ensures))
    (can_push c.args.arena.now (column_leaves c.args.row.now) (take c.loop-column.column-index (column_leaves c.args.row.now)) c.loop-column.self c.loop-column.invariant c.requires.row
    (get_or (column_leaves c.args.row.now) c.loop-column.column-index 0) (occurs_at (column_leaves c.args.row.now) c.loop-column.column-index lt)
    (row_new (column_leaves c.args.row.now) c.loop-column.column-index lt c.requires.row.once))

pub loop-column-preserved : goal.loop-column-preserved
loop-column-preserved c =
    let lt : c.loop-column.column-index < length (column_leaves c.args.row.now) = subst (λ n. c.loop-column.column-index < n) (sym (leaves_length c.args.row.now)) c.loop-column-test.true in
    let e : c.leaf.result.index ≡ get_or (column_leaves c.args.row.now) c.loop-column.column-index 0 = leaf_is c.args.arena.now c.args.row.now c.loop-column.column-index c.leaf.result.index c.layout_law.ensures c.leaf.ensures in
    subst (λ z. IsQueueing c.args.arena.now z c.push.new.self)
    (ap (λ n. take c.loop-column.column-index (column_leaves c.args.row.now) ++ n ∷ []) e ∙ sym (take_more (column_leaves c.args.row.now) c.loop-column.column-index 0 lt))
    (begun_more c.args.arena.now (take c.loop-column.column-index (column_leaves c.args.row.now)) c.loop-column.self c.push.new.self c.leaf.result
    c.layout_law.ensures c.loop-column.invariant
    (subst (λ n. occurs (take c.loop-column.column-index (column_leaves c.args.row.now)) n ≡ 0) (sym e) (row_new (column_leaves c.args.row.now) c.loop-column.column-index lt c.requires.row.once))
    (used_by c.args.arena.now c.leaf.result.index (Leaf (get_or c.args.row.now c.loop-column.column-index 0)) c.leaf.ensures) c.push.ensures)
