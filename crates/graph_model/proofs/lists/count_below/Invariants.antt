use Rattle.std.proofs.Common.{◌≡◌, ◌+◌, drop}
use Rattle.graph_model.specs.Graphs.{below}
use Rattle.graph_model.proofs.lists.count_below.Given as goal

abbrev pub invariant-loop-i : goal.invariant-loop-i
invariant-loop-i l = l.i + below l.y (drop l.i l.row) ≡ below l.y l.row
