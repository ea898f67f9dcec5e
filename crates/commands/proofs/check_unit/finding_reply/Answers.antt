use Rattle.std.proofs.Common.{ap, ◌∙◌}
use Rattle.instance_model.specs.Value.{instance_value}
use Rattle.commands.proofs.check_unit.finding_reply.Goals as goal

pub returns-clause-reply : goal.returns-clause-reply
returns-clause-reply c = (
  c.in-Proper.graph,
  ap instance_value c.in-Proper.is,
  λ bytes whole. (
    c.in_ok-finding.finding,
    c.in_ok-finding.ensures bytes whole,
    (c.line_reply.ensures.status ∙ c.status.ensures, rw c.line_reply.ensures.text c.in_ok-line.ensures.ok),
  ),
)

pub unreachable-requires : goal.unreachable-requires
unreachable-requires c = c.graph_law.ensures c.args.instance.now c.requires.within c.requires.kind c.in_default.not-Proper
