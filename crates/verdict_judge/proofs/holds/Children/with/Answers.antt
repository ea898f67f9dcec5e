use Rattle.verdict_judge.proofs.HoldsSteps.{sum_more}
use Rattle.verdict_judge.proofs.holds.Children.with.Goals as goal

pub returns-clause-sum : goal.returns-clause-sum
returns-clause-sum c row all rest t h k =
    sum_more row all rest t c.args.self c.args.child _ _ (λ e. rw e at c.from.ensures) (λ e. rw e at c.from.ensures)
    (c.with.ensures row t rest h) h k
