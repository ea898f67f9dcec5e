use Rattle.std.proofs.Common.{◌<◌, length, get_or, ap, arith, below_more}
use Rattle.std.proofs.lemmas.Bool.{both_ways}
use Rattle.verdict_judge.specs.Core.{PassesCoreOrder, PassesCore}
use Rattle.verdict_judge.specs.declared.core_outcome.CoreReason.TheVariants as reason
use Rattle.verdict_judge.proofs.CoreTests.{finds_item, all_items, order_tested}
use Rattle.std.proofs.lemmas.Result.{IfOk-from_err}
use Rattle.verdict_judge.proofs.core_check.first_bad_order.Goals as goal

pub overflow_cast-i : goal.overflow_cast-i
overflow_cast-i c = omega (arith, c.requires.grammar.few_rows, ap length c.rows-rows.ensures.rows, c.loop-i-test.true)

pub overflow_add-i : goal.overflow_add-i
overflow_add-i c = omega (arith, c.requires.grammar.few_rows, ap length c.rows-rows.ensures.rows, c.loop-i-test.true)

pub returns-then-not-branch : goal.returns-then-not-branch
returns-then-not-branch c kind =
    let tested = order_tested c.args.m.now c.args.t.now.parts c.loop-i.i c.rows-rows.result.now c.order-in-loop-i.result.now c.requires.rows c.loop-i-test.true c.rows-rows.ensures.rows c.order-in-loop-i.ensures in
    let within : c.loop-i.i < length c.args.t.now.parts.rows = omega (arith, ap length c.rows-rows.ensures.rows, c.loop-i-test.true) in
    rw c.rows-rows.ensures.rows (finds_item (PassesCore c.args.m.now kind c.args.t.now) reason.Order c.args.t.now.parts.rows c.loop-i.i 0 within c.loop-i.invariant
    (λ p. both_ways c.in_ok-are_kept.field-0 c.if-not-branch.true (c.in_ok-are_kept.ensures.1 (tested.1 p))))

pub loop-i-preserved : goal.loop-i-preserved
loop-i-preserved c =
    let tested = order_tested c.args.m.now c.args.t.now.parts c.loop-i.i c.rows-rows.result.now c.order-in-loop-i.result.now c.requires.rows c.loop-i-test.true c.rows-rows.ensures.rows c.order-in-loop-i.ensures in
    below_more (λ k. PassesCoreOrder c.args.m.now c.args.t.now.parts (get_or c.args.t.now.parts.rows k 0)) c.loop-i.i c.loop-i.invariant (tested.0 (c.in_ok-are_kept.ensures.0 c.if-not-branch.false))

pub returns : goal.returns
returns c kind =
    all_items (PassesCore c.args.m.now kind c.args.t.now) reason.Order c.args.t.now.parts.rows 0 (λ j l. c.loop-i.invariant j (omega (arith, l, ap length c.rows-rows.ensures.rows, c.loop-i-test.false)))

pub returns-in_err-are_kept : goal.returns-in_err-are_kept
returns-in_err-are_kept c = IfOk-from_err c.from_residual-in_err-are_kept.result _ c.from_residual-in_err-are_kept.ensures.0

pub returns-in_err-others : goal.returns-in_err-others
returns-in_err-others c = IfOk-from_err c.from_residual.result _ c.from_residual.ensures.0

pub are_kept-requires-clause-within : goal.are_kept-requires-clause-within
are_kept-requires-clause-within c = c.loop-i-test.true
