use Rattle.std.proofs.Common.{◌≡◌, true}
use Rattle.graph_read.specs.DistanceSteps.{is_symmetric_at}
use Rattle.graph_read.proofs.distance_files.is_row.Given as goal

abbrev pub invariant-loop-y : goal.invariant-loop-y
invariant-loop-y l = is_symmetric_at l.n l.values l.x l.y ≡ true
