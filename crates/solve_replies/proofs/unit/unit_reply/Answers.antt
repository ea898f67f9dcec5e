use Rattle.std.proofs.Common.{◌≡◌, ap, subst}
use Rattle.std.proofs.lemmas.Result.{IfOk-from_err, IfOk-weaker}
use Rattle.graph_model.specs.Graphs.{GraphValue}
use Rattle.instance_model.specs.Instance.{proper}
use Rattle.instance_model.specs.Value.{instance_value}
use Rattle.verdict_text.specs.Value.{verdict_value}
use Rattle.verdict_replies.specs.Verdicts.{IsVerdictOf}
use Rattle.verdict_replies.specs.declared.reply.Reply.{Reply}
use Rattle.solve_replies.specs.Models.{TellsByClaim, IsModelReply}
use Rattle.solve_replies.specs.Steps.{verdict_status}
use Rattle.solve_replies.proofs.Within.{made_of_sides}
use Rattle.solve_replies.proofs.unit.unit_reply.Goals as goal

pub unreachable-requires : goal.unreachable-requires
unreachable-requires g c = c.graph_law.ensures c.args.instance.now c.requires.within c.requires.kind c.in_default.not-Proper

pub returns-clause-reply : goal.returns-clause-reply
returns-clause-reply g c =
    let graph = c.in-Proper.graph in
    let value = verdict_value c.in_ok-verdict.verdict in
    let is = ap instance_value c.in-Proper.is in
    IfOk-weaker c.reply_by.result (λ reply. TellsByClaim graph value value.claim reply.status reply.text.items)
    (λ reply. (x : GraphValue) × (instance_value c.args.instance.now ≡ proper x) × IsModelReply x reply.status reply.text.items)
    (λ reply tells. (graph, is, record { verdict = value; counts = c.in_ok-verdict.ensures.grammar.columns; holds = subst (λ i. IsVerdictOf i value) is c.in_ok-verdict.ensures.holds; tells = tells }))
    c.reply_by.ensures.tells

pub returns-clause-status : goal.returns-clause-status
returns-clause-status g c = c.reply_by.ensures.status

pub returns-clause-steps : goal.returns-clause-steps
returns-clause-steps g c =
    made_of_sides (λ (reply : Reply). reply.status) c.reply_by.result (instance_value c.args.instance.now) (verdict_status c.in_ok-verdict.verdict) c.args.steps.now c.verdict_on.new.steps
    c.reply_by.ensures.claim c.in_ok-verdict.ensures.steps

pub reply_by-requires-clause-holds : goal.reply_by-requires-clause-holds
reply_by-requires-clause-holds g c = subst (λ i. IsVerdictOf i (verdict_value c.in_ok-verdict.verdict)) (ap instance_value c.in-Proper.is) c.in_ok-verdict.ensures.holds

pub returns-in_err-verdict-clause-steps : goal.returns-in_err-verdict-clause-steps
returns-in_err-verdict-clause-steps g c =
    made_of_sides (λ (reply : Reply). reply.status) c.from_residual.result (instance_value c.args.instance.now) 6 c.args.steps.now c.verdict_on.new.steps
    (IfOk-from_err c.from_residual.result _ c.from_residual.ensures.0) c.in_err-verdict.ensures.steps
