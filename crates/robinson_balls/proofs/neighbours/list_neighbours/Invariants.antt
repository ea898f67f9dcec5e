use Rattle.std.proofs.Common.{◌≡◌, map}
use Rattle.std.specs.List.{range_with_len}
use Rattle.robinson_balls.specs.Neighbours.{neighbour}
use Rattle.robinson_balls.proofs.neighbours.list_neighbours.Given as goal

abbrev pub invariant-loop-before : goal.invariant-loop-before
invariant-loop-before l = l.neighbours.items ≡ map (neighbour l.d l.x) (range_with_len 1 l.before)
