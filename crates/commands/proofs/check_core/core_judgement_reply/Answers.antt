use Rattle.std.proofs.Common.{◌∙◌, sym, ap}
use Rattle.instance_model.specs.Instance.{plain, instance_kind}
use Rattle.instance_model.specs.Value.{instance_value}
use Rattle.commands.proofs.check_core.core_judgement_reply.Goals as goal

pub returns-clause-reply : goal.returns-clause-reply
returns-clause-reply c = λ bytes whole.
    let is = ap instance_value c.in-Plain.is in (
      c.in-Plain.m,
      is ∙ ap (λ k. plain k c.in-Plain.m) (sym (ap instance_kind is) ∙ c.requires.of_kind),
      (
        c.in_ok-judgement.judgement,
        c.in_ok-judgement.ensures bytes whole,
        (c.line_reply.ensures.status ∙ c.status.ensures, rw c.line_reply.ensures.text c.in_ok-line.ensures.ok),
      ),
    )
