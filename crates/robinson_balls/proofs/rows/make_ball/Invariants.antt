use Rattle.std.proofs.Common.{◌≡◌, leb}
use Rattle.row_model.specs.Rows.{columns_where}
use Rattle.robinson_balls.specs.Balls.{between}
use Rattle.robinson_balls.proofs.rows.make_ball.Given as goal

abbrev pub invariant-loop-before : goal.invariant-loop-before
invariant-loop-before l = l.items.items ≡ columns_where l.before (λ y. leb (between l.d l.x y) l.radius)
