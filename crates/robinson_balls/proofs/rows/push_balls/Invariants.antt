use Rattle.std.proofs.Common.{◌≡◌, ◌≤◌, ◌+◌, ◌++◌, length, map, drop}
use Rattle.row_model.specs.Rows.{IsRow}
use Rattle.robinson_balls.specs.Balls.{ball}
use Rattle.robinson_balls.proofs.Growing.{AreNearest}
use Rattle.robinson_balls.proofs.Rims.{rims}
use Rattle.robinson_balls.proofs.rows.push_balls.Given as goal

abbrev pub invariant-loop-k : goal.invariant-loop-k
invariant-loop-k l = record {
  begun : l.first ≤ l.k;
  grown : AreNearest l.neighbours.items l.first l.ball.items;
  row : IsRow l.d.items l.ball.items;
  columns : l.balls.columns ≡ l.fn.balls.columns;
  rest : l.balls.rows ++ map (ball l.d l.x) (rims (drop l.k l.neighbours.items)) ≡ l.fn.balls.rows ++ map (ball l.d l.x) (rims l.neighbours.items);
  few : length l.balls.rows ≤ length l.fn.balls.rows + l.k;
}
