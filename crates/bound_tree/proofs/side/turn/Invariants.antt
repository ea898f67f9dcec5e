use Rattle.std.proofs.Common.{◌≡◌, ◌++◌, map, take, drop}
use Rattle.bound_tree.specs.Sides.{turned_stretch}
use Rattle.bound_tree.proofs.side.turn.Given as goal

abbrev pub invariant-loop-stretch : goal.invariant-loop-stretch
invariant-loop-stretch l = l.stretches ≡ map (turned_stretch l.columns) (take l.stretch-index l.fn.stretches) ++ drop l.stretch-index l.fn.stretches
