use Rattle.std.proofs.Common.{◌≡◌, drop}
use Rattle.robinson_balls.specs.Balls.{ball}
use Rattle.robinson_balls.specs.Neighbours.{with_items}
use Rattle.robinson_balls.proofs.Rising.{Rises}
use Rattle.robinson_balls.proofs.rows.grow.Given as goal

abbrev pub invariant-loop-neighbour : goal.invariant-loop-neighbour
invariant-loop-neighbour l = record {
  rises : Rises 0 l.items.items;
  rest : with_items (drop l.neighbour-index l.group) l.items.items ≡ ball l.d l.x l.radius;
}
