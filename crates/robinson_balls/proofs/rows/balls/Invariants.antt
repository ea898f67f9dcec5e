use Rattle.std.proofs.Common.{◌≡◌}
use Rattle.robinson_balls.specs.Balls.{balls_to}
use Rattle.robinson_balls.proofs.rows.balls.Given as goal

abbrev pub invariant-loop-before : goal.invariant-loop-before
invariant-loop-before l = l.balls ≡ record { columns = l.d.items; rows = balls_to l.d l.before }
