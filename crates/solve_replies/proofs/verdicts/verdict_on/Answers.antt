use Rattle.std.proofs.Common.{sym, subst}
use Rattle.instance_model.specs.Value.{instance_value}
use Rattle.solve_replies.specs.Steps.{SolvesWithin}
use Rattle.solve_replies.proofs.verdicts.verdict_on.Goals as goal

pub returns-clause-steps : goal.returns-clause-steps
returns-clause-steps g c =
    subst (λ k. SolvesWithin (instance_value c.args.instance.now) k c.args.steps.now c.part_on.new.steps) (sym c.verdict_with.ensures.status) c.in_ok-part.ensures.steps
