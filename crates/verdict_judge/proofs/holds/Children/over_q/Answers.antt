use Rattle.verdict_judge.proofs.HoldsSteps.{share_q}
use Rattle.verdict_judge.proofs.holds.Children.over_q.Goals as goal

pub returns : goal.returns
returns c row ts h = share_q row ts c.args.self h c.is_gapped.result (c.is_gapped.ensures row)
