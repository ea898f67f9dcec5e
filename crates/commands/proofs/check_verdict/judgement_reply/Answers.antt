use Rattle.std.proofs.Common.{◌∙◌}
use Rattle.commands.proofs.check_verdict.judgement_reply.Goals as goal

pub returns-clause-reply : goal.returns-clause-reply
returns-clause-reply c = λ bytes whole. (
  c.in_ok-judgement.judgement,
  c.in_ok-judgement.ensures bytes whole,
  (c.line_reply.ensures.status ∙ c.status.ensures, rw c.line_reply.ensures.text c.in_ok-line.ensures.ok),
)
