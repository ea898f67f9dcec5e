use Rattle.std.proofs.Common.{◌≡◌, ◌⊎◌, ℕ, List, Result, Ok, Err, inl, inr, sym, subst, arith}
use Rattle.std.proofs.lemmas.Result.{IfOk-from_err, IfOk-weaker}
use Rattle.std.specs.Prelude.{IfOk}
use Rattle.column_order.specs.Orders.{HasValidOrder}
use Rattle.pq_tree.specs.declared.PqTree.{PqTree}
use Rattle.row_model.specs.Cycles.{IsOddCycle}
use Rattle.row_model.specs.Rows.{RowList}
use Rattle.row_model.specs.declared.graph.Line.{Line}
use Rattle.row_model.specs.declared.Kind.{Kind}
use Rattle.odd_cycle.specs.Short.{IsShort}
use Rattle.row_judge.specs.Judges.{IsFirstConflict}
use Rattle.row_judge.specs.declared.Judged.{Judged}
use Rattle.row_judge.specs.declared.Judged.TheVariants.{Yes, No}
use Rattle.c1p_solve.specs.Answers.{IsAnswer, IsInTurn, HasAllOrders}
use Rattle.instance_model.specs.Instance.{plain, IsInstance}
use Rattle.verdict_replies.specs.Verdicts.{IsVerdictReply}
use Rattle.verdict_replies.specs.declared.reply.Reply.{Reply}
use Rattle.solve_replies.specs.Lists.{IsListText, IsListReply}
use Rattle.solve_replies.specs.Steps.{answer_status, SolvesMatrixWithin}
use Rattle.solve_replies.proofs.Within.{made_of_matrix}
use Rattle.solve_replies.proofs.list.list_reply.Goals as goal

yes_listed : {E : Type 0} (kind : Kind) (m : RowList) (k : ℕ) (t : PqTree) (made : Result Reply E) → IfOk made (λ reply. (n : RowList) → HasAllOrders n t → IsListText kind n k reply.text.items) → IfOk made (λ reply. reply.status ≡ 0) →
    IsAnswer m (Yes t) → IfOk made (λ reply. IsListReply kind m k reply.status reply.text.items)
yes_listed kind m k t (Ok reply) text status answer = inr (answer.1, status, text m answer.0)
yes_listed kind m k t (Err e) text status answer = tt

no_listed : {E : Type 0} (kind : Kind) (m : RowList) (k columns : ℕ) (cycle : List Line) (made : Result Reply E) →
    IfOk made (λ reply. (n : RowList) → n.columns ≡ columns → IsInstance (plain kind n) → IsOddCycle n.columns n.rows cycle → IsShort n.columns cycle → IsFirstConflict n cycle → (HasValidOrder n.columns n.rows → ⊥) → IsVerdictReply (plain kind n) 1 reply.text.items) →
    IfOk made (λ reply. reply.status ≡ 1) → columns ≡ m.columns → IsInstance (plain kind m) → IsAnswer m (No cycle) → IsFirstConflict m cycle → IfOk made (λ reply. IsListReply kind m k reply.status reply.text.items)
no_listed kind m k columns cycle (Ok reply) text status same instance answer first = inl (answer.1, status, text m (sym same) instance answer.0 answer.2 first answer.1)
no_listed kind m k columns cycle (Err e) text status same instance answer first = tt

pub returns-in-Yes-clause-reply : goal.returns-in-Yes-clause-reply
returns-in-Yes-clause-reply g c =
    let m = c.args.matrix.now in
    yes_listed c.args.kind m c.args.count c.in-Yes.tree c.orders_reply.result c.orders_reply.ensures.reply c.orders_reply.ensures.status (subst (IsAnswer m) c.in-Yes.is c.in_ok-tree.ensures.answer)

pub returns-in-No-clause-reply : goal.returns-in-No-clause-reply
returns-in-No-clause-reply g c =
    let m = c.args.matrix.now in
    no_listed c.args.kind m c.args.count c.columns.result c.in-No.cycle c.no_reply.result c.no_reply.ensures.reply c.no_reply.ensures.status c.columns.ensures.columns c.requires.instance
    (subst (IsAnswer m) c.in-No.is c.in_ok-tree.ensures.answer) (subst (IsInTurn m) c.in-No.is c.in_ok-tree.ensures.in_turn)

pub returns-in-Yes-clause-steps : goal.returns-in-Yes-clause-steps
returns-in-Yes-clause-steps g c =
    made_of_matrix (λ (reply : Reply). reply.status) c.orders_reply.result c.args.matrix.now 0 c.args.steps.now c.solve_matrix.new.steps c.orders_reply.ensures.status
    (subst (λ (a : Judged). SolvesMatrixWithin c.args.matrix.now (answer_status a) c.args.steps.now c.solve_matrix.new.steps) c.in-Yes.is c.in_ok-tree.ensures.steps)

pub returns-in-No-clause-steps : goal.returns-in-No-clause-steps
returns-in-No-clause-steps g c =
    made_of_matrix (λ (reply : Reply). reply.status) c.no_reply.result c.args.matrix.now 1 c.args.steps.now c.solve_matrix.new.steps c.no_reply.ensures.status
    (subst (λ (a : Judged). SolvesMatrixWithin c.args.matrix.now (answer_status a) c.args.steps.now c.solve_matrix.new.steps) c.in-No.is c.in_ok-tree.ensures.steps)

pub orders_reply-requires : goal.orders_reply-requires
orders_reply-requires g c = c.requires.count

pub no_reply-requires : goal.no_reply-requires
no_reply-requires g c = (c.columns.ensures.range.0, omega (arith, c.columns.ensures.columns, c.requires.instance.1))

pub returns-in-Yes-clause-status : goal.returns-in-Yes-clause-status
returns-in-Yes-clause-status g c =
    IfOk-weaker c.orders_reply.result (λ reply. reply.status ≡ 0) (λ reply. (reply.status ≡ 0) ⊎ (reply.status ≡ 1)) (λ reply e. inl e) c.orders_reply.ensures.status

pub returns-in-No-clause-status : goal.returns-in-No-clause-status
returns-in-No-clause-status g c =
    IfOk-weaker c.no_reply.result (λ reply. reply.status ≡ 1) (λ reply. (reply.status ≡ 0) ⊎ (reply.status ≡ 1)) (λ reply e. inr e) c.no_reply.ensures.status

pub returns-in_err-tree-clause-steps : goal.returns-in_err-tree-clause-steps
returns-in_err-tree-clause-steps g c =
    made_of_matrix (λ (reply : Reply). reply.status) c.from_residual.result c.args.matrix.now 6 c.args.steps.now c.solve_matrix.new.steps
    (IfOk-from_err c.from_residual.result _ c.from_residual.ensures.0) c.in_err-tree.ensures.steps
