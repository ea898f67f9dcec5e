use Rattle.std.proofs.Common.{length, subst}
use Rattle.std.proofs.lemmas.Bool.{both_ways}
use Rattle.row_model.specs.Graph.{row_at}
use Rattle.pq_tree.specs.PqTree.{outline}
use Rattle.verdict_text.specs.Value.{yes_value}
use Rattle.instance_model.specs.Value.{instance_value}
use Rattle.verdict_judge.specs.Found.{IsLeastFailing}
use Rattle.verdict_judge.specs.YesTests.{AllKeep}
use Rattle.verdict_judge.proofs.Sides.{side_tree}
use Rattle.verdict_judge.proofs.SideTests.{order_fails, row_fails, rows_pass_ok, kept_by_all, proper_columns}
use Rattle.std.proofs.lemmas.Result.{IfOk-from_err}
use Rattle.verdict_judge.proofs.StepSums.{of_order, of_tree, of_all}
use Rattle.verdict_judge.proofs.side.derived_fault.Goals as goal

pub returns-then-not-branch-clause-finds : goal.returns-then-not-branch-clause-finds
returns-then-not-branch-clause-finds g c =
    let tells = c.in_ok-is_textbook_order.ensures.textbook c.args.side c.requires.side c.requires.derived in
    order_fails c.args.version (instance_value c.args.instance.now) (yes_value c.args.yes.now) c.args.side c.order.result.now c.order.ensures
    (λ h. both_ways c.in_ok-is_textbook_order.field-0 c.if-not-branch.true (tells.1 h))

pub first_broken_row-requires : goal.first_broken_row-requires
first_broken_row-requires g c =
    proper_columns _ _ (outline c.tree-tree.result.now) c.tree-tree.result.now.proper
    (side_tree (instance_value c.args.instance.now) (yes_value c.args.yes.now) c.args.side c.args.derived.now (outline c.tree-tree.result.now) c.requires.side c.requires.derived c.requires.sides c.tree-tree.ensures)

pub returns-in-Some-clause-finds : goal.returns-in-Some-clause-finds
returns-in-Some-clause-finds g c =
    let tells = c.in_ok-is_textbook_order.ensures.textbook c.args.side c.requires.side c.requires.derived in
    row_fails c.args.version (instance_value c.args.instance.now) (yes_value c.args.yes.now) c.args.side c.args.derived.now c.order.result.now (outline c.tree-tree.result.now) c.in-Some.k c.requires.derived
    c.order.ensures c.tree-tree.ensures (tells.0 c.if-not-branch.false)
    (subst (IsLeastFailing (λ k. AllKeep (outline c.tree-tree.result.now) (row_at c.args.derived.now.rows k)) (length c.args.derived.now.rows)) c.in-Some.is c.in_ok-k.ensures.least)

pub returns-in-None-clause-finds : goal.returns-in-None-clause-finds
returns-in-None-clause-finds g c =
    let tells = c.in_ok-is_textbook_order.ensures.textbook c.args.side c.requires.side c.requires.derived in
    rows_pass_ok c.args.version (instance_value c.args.instance.now) (yes_value c.args.yes.now) c.args.side c.args.derived.now c.order.result.now (outline c.tree-tree.result.now) c.complete_fault.result c.requires.derived
    c.order.ensures c.tree-tree.ensures (tells.0 c.if-not-branch.false)
    (subst (IsLeastFailing (λ k. AllKeep (outline c.tree-tree.result.now) (row_at c.args.derived.now.rows k)) (length c.args.derived.now.rows)) c.in-None.is c.in_ok-k.ensures.least)
    c.complete_fault.ensures.finds

pub complete_fault-requires-clause-columns : goal.complete_fault-requires-clause-columns
complete_fault-requires-clause-columns g c =
    proper_columns _ _ (outline c.tree-tree.result.now) c.tree-tree.result.now.proper
    (side_tree (instance_value c.args.instance.now) (yes_value c.args.yes.now) c.args.side c.args.derived.now (outline c.tree-tree.result.now) c.requires.side c.requires.derived c.requires.sides c.tree-tree.ensures)

pub complete_fault-requires-clause-kept : goal.complete_fault-requires-clause-kept
complete_fault-requires-clause-kept g c =
    kept_by_all (outline c.tree-tree.result.now) c.args.derived.now.rows
    (subst (IsLeastFailing (λ k. AllKeep (outline c.tree-tree.result.now) (row_at c.args.derived.now.rows k)) (length c.args.derived.now.rows)) c.in-None.is c.in_ok-k.ensures.least)

pub returns-in_err-is_textbook_order-clause-finds : goal.returns-in_err-is_textbook_order-clause-finds
returns-in_err-is_textbook_order-clause-finds g c = IfOk-from_err c.from_residual.result _ c.from_residual.ensures.0

pub returns-in_err-k-clause-finds : goal.returns-in_err-k-clause-finds
returns-in_err-k-clause-finds g c = IfOk-from_err c.from_residual-in_err-k.result _ c.from_residual-in_err-k.ensures.0

pub is_textbook_order-requires : goal.is_textbook_order-requires
is_textbook_order-requires g c = c.requires.formed

pub returns-in_err-is_textbook_order-clause-ticks : goal.returns-in_err-is_textbook_order-clause-ticks
returns-in_err-is_textbook_order-clause-ticks g c = of_order _ _ _ _ c.in_err-is_textbook_order.ensures.ticks

pub returns-then-not-branch-clause-ticks : goal.returns-then-not-branch-clause-ticks
returns-then-not-branch-clause-ticks g c = of_order _ _ _ _ c.in_ok-is_textbook_order.ensures.ticks

pub returns-in_err-k-clause-ticks : goal.returns-in_err-k-clause-ticks
returns-in_err-k-clause-ticks g c = of_tree _ _ _ _ _ _ c.in_ok-is_textbook_order.ensures.ticks c.in_err-k.ensures.ticks

pub returns-in-Some-clause-ticks : goal.returns-in-Some-clause-ticks
returns-in-Some-clause-ticks g c = of_tree _ _ _ _ _ _ c.in_ok-is_textbook_order.ensures.ticks c.in_ok-k.ensures.ticks

pub returns-in-None-clause-ticks : goal.returns-in-None-clause-ticks
returns-in-None-clause-ticks g c = of_all _ _ _ _ _ _ _ c.in_ok-is_textbook_order.ensures.ticks c.in_ok-k.ensures.ticks c.complete_fault.ensures.ticks
