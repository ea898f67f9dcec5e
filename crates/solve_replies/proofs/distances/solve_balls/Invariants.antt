use Rattle.std.proofs.Common.{◌≡◌, length}
use Rattle.robinson_balls.specs.Balls.{balls_to}
use Rattle.c1p_solve.specs.Growing.{HasTaken}
use Rattle.solve_replies.proofs.distances.solve_balls.Given as goal

-- the balls of the centres so far are taken
abbrev pub invariant-loop-before : goal.invariant-loop-before
invariant-loop-before g l = record {
  columns : l.round.columns ≡ l.d.items;
  held : HasTaken l.d.items (balls_to l.d l.before) l.reducer l.fn.steps l.steps;
  count : l.taken ≡ length (balls_to l.d l.before);
}
