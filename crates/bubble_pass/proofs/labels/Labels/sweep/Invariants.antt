use Rattle.std.proofs.Common.{◌-◌, length}
use Rattle.bubble_pass.specs.Sweep.{Sweeping}
use Rattle.bubble_pass.proofs.labels.Labels.sweep.Given as goal

abbrev pub invariant-loop-done : goal.invariant-loop-done
invariant-loop-done g l = Sweeping l.arena g.leaves l.climber l.self l.done l.fn.steps l.steps

abbrev pub decreases-loop-done : goal.decreases-loop-done
decreases-loop-done g l = length l.arena.slots - l.done

abbrev pub ghost-judge : goal.ghost-judge
ghost-judge g a = g.leaves

abbrev pub ghost-settle : goal.ghost-settle
ghost-settle g a = g.leaves
