use Rattle.verdict_judge.proofs.SameLists.{same_intervals}
use Rattle.verdict_judge.proofs.intervals.same_intervals.Goals as goal

pub returns : goal.returns
returns c = same_intervals c.args.list.now c.args.others.now c.eq.result c.eq.ensures
