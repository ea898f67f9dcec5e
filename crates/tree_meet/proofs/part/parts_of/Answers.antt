use Rattle.std.proofs.Common.{arith}
use Rattle.std.proofs.lemmas.Result.{IfOk-from_err}
use Rattle.column_order.proofs.Lists.{has_at}
use Rattle.tree_meet.specs.Marks.{is_at}
use Rattle.tree_meet.proofs.Parts.{parts_begin, parts_more, parts_end}
use Rattle.tree_meet.proofs.part.parts_of.Goals as goal

pub returns : goal.returns
returns c =
    parts_end is_at c.args.marks.now c.args.row.now c.args.count c.loop-column.parts.items c.loop-column.column-index c.loop-column-test.false c.loop-column.invariant

pub loop-column-preserved : goal.loop-column-preserved
loop-column-preserved c =
    parts_more is_at c.args.marks.now c.args.row.now c.args.count c.loop-column.parts.items c.add_at.new.lists.items c.loop-column.column-index c.loop-column-test.true c.loop-column.invariant c.in_ok-add_at.ensures

pub returns-in_err-parts : goal.returns-in_err-parts
returns-in_err-parts c = IfOk-from_err c.from_residual.result _ c.from_residual.ensures.0

pub bounds-marks-column : goal.bounds-marks-column
bounds-marks-column c = (c.requires _ (has_at c.args.row.now c.loop-column.column-index c.loop-column-test.true)).0

pub loop-column-init : goal.loop-column-init
loop-column-init c =
    parts_begin is_at c.args.marks.now c.args.row.now c.args.count c.in_ok-parts.parts.items c.in_ok-parts.ensures

pub add_at-requires : goal.add_at-requires
add_at-requires c =
    omega (arith, (c.requires _ (has_at c.args.row.now c.loop-column.column-index c.loop-column-test.true)).1, c.loop-column.invariant.0)

pub returns-in_err-add_at : goal.returns-in_err-add_at
returns-in_err-add_at c =
    IfOk-from_err c.from_residual-in_err-add_at.result _ c.from_residual-in_err-add_at.ensures.0
