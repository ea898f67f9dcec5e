use Rattle.bubble_pass.specs.Sweep.{Judging}
use Rattle.bubble_pass.proofs.labels.Labels.judge.Given as goal

abbrev pub invariant-loop-left : goal.invariant-loop-left
invariant-loop-left g l = Judging l.arena l.self l.fn.x.index l.left l.before l.next l.fn.steps l.steps

abbrev pub decreases-loop-left : goal.decreases-loop-left
decreases-loop-left g l = l.left
