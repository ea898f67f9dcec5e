use Rattle.std.proofs.Common.{IsTrue, refl, subst, sym}
use Rattle.column_order.specs.Orders.{IsOrder}
use Rattle.circular_ones.specs.Circular.{IsTurned}
use Rattle.verdict_judge.proofs.Orders.{kept_order_ok, turned_order_ok, own_length, own_rotation}
use Rattle.std.proofs.lemmas.Result.{IfOk-from_err}
use Rattle.std.proofs.lemmas.Bool.{both_ways}
use Rattle.verdict_judge.proofs.StepSums.{none_more, counted, counted_ok}
use Rattle.verdict_judge.proofs.side.is_textbook_order.Goals as goal

pub turned-requires : goal.turned-requires
turned-requires g c = own_length c.columns.result c.args.order.now (c.in_ok-is_order.ensures.0 c.if-not-branch.false)

pub keeps-requires : goal.keeps-requires
keeps-requires g c =
    subst (IsOrder c.args.derived.now.columns) (sym c.deref.ensures.value)
    (own_rotation c.circular_law.ensures.rotation c.columns.result c.args.derived.now.columns c.args.order.now c.in_ok-turned-in-Circular.field-0.items c.columns.ensures.columns c.in_ok-turned-in-Circular.ensures
    (c.in_ok-is_order.ensures.0 c.if-not-branch.false))

pub returns-in_ok-turned-in-Circular-clause-textbook : goal.returns-in_ok-turned-in-Circular-clause-textbook
returns-in_ok-turned-in-Circular-clause-textbook g c =
    turned_order_ok c.circular_law.ensures.rotation c.circular_law.ensures.turned c.args.instance.now c.in-Circular.field-0 c.args.derived.now c.columns.result c.args.order.now c.deref.result.now c.keeps.result c.in-Circular.is
    (subst (IsTurned c.args.order.now) (sym c.deref.ensures.value) c.in_ok-turned-in-Circular.ensures) c.columns.ensures.columns (c.in_ok-is_order.ensures.0 c.if-not-branch.false) c.keeps.ensures

pub returns-in_default-clause-textbook : goal.returns-in_default-clause-textbook
returns-in_default-clause-textbook g c =
    kept_order_ok c.textbook_law.ensures.derived c.args.instance.now c.args.derived.now c.columns.result c.args.order.now c.keeps-in_default.result c.in_default.not-Circular c.requires c.columns.ensures.columns
    (c.in_ok-is_order.ensures.0 c.if-not-branch.false) c.keeps-in_default.ensures

pub returns-in_err-is_order-clause-order : goal.returns-in_err-is_order-clause-order
returns-in_err-is_order-clause-order g c = IfOk-from_err c.from_residual.result _ c.from_residual.ensures.0

pub returns-in_err-is_order-clause-textbook : goal.returns-in_err-is_order-clause-textbook
returns-in_err-is_order-clause-textbook g c = IfOk-from_err c.from_residual.result _ c.from_residual.ensures.0

pub returns-in_err-is_order-clause-ticks : goal.returns-in_err-is_order-clause-ticks
returns-in_err-is_order-clause-ticks g c = none_more _ _

pub returns-in_err-is_order-clause-turns : goal.returns-in_err-is_order-clause-turns
returns-in_err-is_order-clause-turns g c = IfOk-from_err c.from_residual.result _ c.from_residual.ensures.0

pub returns-then-not-branch-clause-ticks : goal.returns-then-not-branch-clause-ticks
returns-then-not-branch-clause-ticks g c = none_more _ _

pub returns-then-not-branch-clause-order : goal.returns-then-not-branch-clause-order
returns-then-not-branch-clause-order g c = λ o. absurd (both_ways c.in_ok-is_order.field-0 c.if-not-branch.true (c.in_ok-is_order.ensures.1 (subst (λ n. IsOrder n c.args.order.now) (sym c.columns.ensures.columns) o)))

pub returns-in_err-turned-in-Circular-clause-turns : goal.returns-in_err-turned-in-Circular-clause-turns
returns-in_err-turned-in-Circular-clause-turns g c = IfOk-from_err c.from_residual-in_err-turned-in-Circular.result _ c.from_residual-in_err-turned-in-Circular.ensures.0

pub returns-in_err-turned-in-Circular-clause-textbook : goal.returns-in_err-turned-in-Circular-clause-textbook
returns-in_err-turned-in-Circular-clause-textbook g c = IfOk-from_err c.from_residual-in_err-turned-in-Circular.result _ c.from_residual-in_err-turned-in-Circular.ensures.0

pub returns-in_err-turned-in-Circular-clause-ticks : goal.returns-in_err-turned-in-Circular-clause-ticks
returns-in_err-turned-in-Circular-clause-ticks g c = counted _ _ _ _ c.count_rows.ensures

pub returns-in_err-turned-in-Circular-clause-order : goal.returns-in_err-turned-in-Circular-clause-order
returns-in_err-turned-in-Circular-clause-order g c = IfOk-from_err c.from_residual-in_err-turned-in-Circular.result _ c.from_residual-in_err-turned-in-Circular.ensures.0

pub returns-in_ok-turned-in-Circular-clause-ticks : goal.returns-in_ok-turned-in-Circular-clause-ticks
returns-in_ok-turned-in-Circular-clause-ticks g c = counted _ _ _ _ c.count_rows.ensures

pub returns-in_ok-turned-in-Circular-clause-turns : goal.returns-in_ok-turned-in-Circular-clause-turns
returns-in_ok-turned-in-Circular-clause-turns g c = counted_ok (λ x. IsTrue x) c.keeps.result _ _ _ _ c.count_rows.ensures

pub returns-in_ok-turned-in-Circular-clause-order : goal.returns-in_ok-turned-in-Circular-clause-order
returns-in_ok-turned-in-Circular-clause-order g c = counted_ok (λ _. IsOrder c.args.derived.now.columns c.args.order.now) c.keeps.result _ _ _ _ c.count_rows.ensures

pub returns-in_default-clause-ticks : goal.returns-in_default-clause-ticks
returns-in_default-clause-ticks g c = counted _ _ _ _ c.count_rows.ensures

pub returns-in_default-clause-turns : goal.returns-in_default-clause-turns
returns-in_default-clause-turns g c = counted_ok (λ x. IsTrue x) c.keeps-in_default.result _ _ _ _ c.count_rows.ensures

pub returns-in_default-clause-order : goal.returns-in_default-clause-order
returns-in_default-clause-order g c = counted_ok (λ _. IsOrder c.args.derived.now.columns c.args.order.now) c.keeps-in_default.result _ _ _ _ c.count_rows.ensures

pub returns-then-not-branch-clause-turns : goal.returns-then-not-branch-clause-turns
returns-then-not-branch-clause-turns g c = λ yes. absurd (both_ways _ refl yes)

pub keeps-requires-in_default : goal.keeps-requires-in_default
keeps-requires-in_default g c = subst (λ n. IsOrder n c.args.order.now) c.columns.ensures.columns (c.in_ok-is_order.ensures.0 c.if-not-branch.false)
