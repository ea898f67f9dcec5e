use Rattle.verdict_judge.proofs.HoldsSteps.{share_p}
use Rattle.verdict_judge.proofs.holds.Children.over_p.Goals as goal

pub returns : goal.returns
returns c row ts h = share_p row ts c.args.self h
