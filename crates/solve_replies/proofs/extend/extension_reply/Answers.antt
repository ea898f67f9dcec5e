use Rattle.std.proofs.Common.{◌≡◌, ◌⊎◌, ◌∙◌, Result, Ok, Err, length, inl, inr, sym, ap, subst, arith}
use Rattle.std.specs.Prelude.{IfOk}
use Rattle.std.proofs.lemmas.Result.{IfOk-from_err, IfOk-weaker}
use Rattle.column_order.specs.Orders.{HasValidOrder}
use Rattle.row_model.specs.Cycles.{IsOddCycle}
use Rattle.row_model.specs.Rows.{RowList}
use Rattle.odd_cycle.specs.Short.{IsShort}
use Rattle.row_judge.specs.Judges.{IsFirstConflict}
use Rattle.instance_model.specs.Instance.{plain, IsInstance}
use Rattle.verdict_replies.specs.Verdicts.{IsVerdictReply}
use Rattle.verdict_replies.specs.declared.reply.Reply.{Reply}
use Rattle.c1p_solve.specs.Taking.{IsStart}
use Rattle.c1p_solve.specs.SessionTotals.{IsStartTotal}
use Rattle.solve_replies.proofs.Charges.{of_session, of_base, of_none}
use Rattle.solve_replies.specs.Sessions.{IsExtensionReply, IsSessionText}
use Rattle.solve_replies.proofs.extend.extension_reply.Goals as goal

both : {X E : Type 0} (r : Result X E) (P Q : X → Type 0) → IfOk r P → IfOk r Q → IfOk r (λ x. P x × Q x)
both (Ok x) P Q p q = (p, q)
both (Err e) P Q p q = tt

pub returns-in-No-clause-reply : goal.returns-in-No-clause-reply
returns-in-No-clause-reply g c =
    let m = c.args.base in
    let kind = c.args.kind in
    let no = subst (IsStart m) c.in-No.is c.in_ok-session.ensures.start in
    let P : Reply → Type 0 = λ reply.
    (n : RowList) → n.columns ≡ c.columns-columns.result → IsInstance (plain kind n) → IsOddCycle n.columns n.rows c.in-No.cycle → IsShort n.columns c.in-No.cycle → IsFirstConflict n c.in-No.cycle → (HasValidOrder n.columns n.rows → ⊥)
    → IsVerdictReply (plain kind n) 1 reply.text.items in
    let Q : Reply → Type 0 = λ reply. reply.status ≡ 1 in
    IfOk-weaker c.no_reply.result (λ reply. P reply × Q reply) (λ reply. IsExtensionReply kind m c.args.further.now.rows reply.status reply.text.items)
    (λ reply h. inl (no.1, h.1, h.0 m (sym c.columns-columns.ensures.columns) c.requires.base no.0 no.2 no.3 no.1))
    (both c.no_reply.result P Q c.no_reply.ensures.reply c.no_reply.ensures.status)

pub returns-in-Ok-clause-steps : goal.returns-in-Ok-clause-steps
returns-in-Ok-clause-steps g c =
    let started = subst (IsStart c.args.base) c.in-Ok.is c.in_ok-session.ensures.start in
    let total = subst (IsStartTotal c.args.base c.args.steps.now c.start.new.steps) c.in-Ok.is c.in_ok-session.ensures.total in
    of_session c.args.base c.args.further.now.rows c.in-Ok.session c.session_reply.result c.args.steps.now c.start.new.steps c.session_reply.new.steps started.0 total c.session_reply.ensures.status
    c.session_reply.ensures.steps c.session_reply.ensures.most

pub returns-in-No-clause-steps : goal.returns-in-No-clause-steps
returns-in-No-clause-steps g c =
    let no = subst (IsStart c.args.base) c.in-No.is c.in_ok-session.ensures.start in
    of_base c.args.base c.args.further.now.rows c.no_reply.result c.args.steps.now c.start.new.steps no.1 c.no_reply.ensures.status c.start.ensures.most

pub returns-in_err-session : goal.returns-in_err-session
returns-in_err-session g c =
    let made = c.from_residual.result in
    let none = c.from_residual.ensures in
    record { reply = IfOk-from_err made _ none.0; status = IfOk-from_err made _ none.0; steps = of_none c.args.base c.args.further.now.rows made _ c.args.steps.now c.start.new.steps none.1 c.start.ensures.most }

pub returns-in-No-clause-status : goal.returns-in-No-clause-status
returns-in-No-clause-status g c =
    IfOk-weaker c.no_reply.result (λ reply. reply.status ≡ 1) (λ reply. (reply.status ≡ 0) ⊎ (reply.status ≡ 1)) (λ reply e. inr e) c.no_reply.ensures.status

pub returns-in-Ok-clause-reply : goal.returns-in-Ok-clause-reply
returns-in-Ok-clause-reply g c =
    let m = c.args.base in
    let rows = c.args.further.now.rows in
    let started = subst (IsStart m) c.in-Ok.is c.in_ok-session.ensures.start in
    let order = subst (λ (n : RowList). HasValidOrder n.columns n.rows) started.0 started.1.order in
    let P : Reply → Type 0 = λ reply. IsSessionText c.args.kind c.in-Ok.session.matrix rows reply.text.items in
    let Q : Reply → Type 0 = λ reply. reply.status ≡ 0 in
    IfOk-weaker c.session_reply.result (λ reply. P reply × Q reply) (λ reply. IsExtensionReply c.args.kind m rows reply.status reply.text.items)
    (λ reply h. inr (order, h.1, subst (λ (n : RowList). IsSessionText c.args.kind n rows reply.text.items) started.0 h.0))
    (both c.session_reply.result P Q c.session_reply.ensures.reply c.session_reply.ensures.status)

pub returns-in-Ok-clause-status : goal.returns-in-Ok-clause-status
returns-in-Ok-clause-status g c =
    IfOk-weaker c.session_reply.result (λ reply. reply.status ≡ 0) (λ reply. (reply.status ≡ 0) ⊎ (reply.status ≡ 1)) (λ reply e. inl e) c.session_reply.ensures.status

pub session_reply-requires : goal.session_reply-requires
session_reply-requires g c =
    let started = subst (IsStart c.args.base) c.in-Ok.is c.in_ok-session.ensures.start in
    record { columns = c.requires.columns ∙ sym (ap (λ (n : RowList). n.columns) started.0); room = omega (arith, c.requires.base.2, c.requires.few, ap (λ (n : RowList). length n.rows) started.0) }

pub no_reply-requires : goal.no_reply-requires
no_reply-requires g c = (c.columns-columns.ensures.range.0, omega (arith, c.columns-columns.ensures.columns, c.requires.base.1))
