use Rattle.std.proofs.lemmas.Result.{IfOk-from_err, IfOk-weaker}
use Rattle.instance_model.specs.Instance.{InstanceValue}
use Rattle.instance_model.specs.Value.{instance_value}
use Rattle.verdict_text.specs.Value.{verdict_value}
use Rattle.verdict_replies.specs.Verdicts.{IsVerdictOf, IsVerdictReply}
use Rattle.verdict_replies.specs.declared.reply.Reply.{Reply}
use Rattle.solve_replies.specs.Steps.{verdict_status}
use Rattle.solve_replies.proofs.Within.{made_of_sides}
use Rattle.solve_replies.proofs.reply.verdict_reply.Goals as goal

pub returns : goal.returns
returns g c =
    let i = instance_value c.args.instance.now in
    let value = verdict_value c.in_ok-verdict.verdict in
    record {
      reply = IfOk-weaker c.told.result (λ (reply : Reply). (j : InstanceValue) → IsVerdictOf j value → IsVerdictReply j reply.status reply.text.items)
          (λ (reply : Reply). IsVerdictReply i reply.status reply.text.items) (λ reply tells. tells i c.in_ok-verdict.ensures.holds) c.told.ensures.reply;
      status = c.told.ensures.status;
      steps = made_of_sides (λ (reply : Reply). reply.status) c.told.result i (verdict_status c.in_ok-verdict.verdict) c.args.steps.now c.verdict_on.new.steps c.told.ensures.claim c.in_ok-verdict.ensures.steps;
    }

pub returns-in_err-verdict-clause-steps : goal.returns-in_err-verdict-clause-steps
returns-in_err-verdict-clause-steps g c =
    made_of_sides (λ (reply : Reply). reply.status) c.from_residual.result (instance_value c.args.instance.now) 6 c.args.steps.now c.verdict_on.new.steps
    (IfOk-from_err c.from_residual.result _ c.from_residual.ensures.0) c.in_err-verdict.ensures.steps
