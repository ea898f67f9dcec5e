use Rattle.verdict_judge.proofs.HoldsSteps.{ended_still, ended_again}
use Rattle.verdict_judge.proofs.holds.LineSoFar.with.Goals as goal

pub returns-in-Ended-false-default : goal.returns-in-Ended-false-default
returns-in-Ended-false-default c row t ts h = ended_still row _ t ts _ c.in-Ended-false-default.is-0 c.in-Ended-false-default.is-1 h

pub returns-in-Whole-true-true-2 : goal.returns-in-Whole-true-true-2
returns-in-Whole-true-true-2 c row t ts h = ended_again row _ t ts _ c.in-Whole-true-true.is-0 c.in-Whole-true-true.is-1 h
