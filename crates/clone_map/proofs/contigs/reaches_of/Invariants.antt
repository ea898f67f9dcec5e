use Rattle.std.proofs.Common.{take}
use Rattle.clone_map.specs.Runs.{AreReaches}
use Rattle.clone_map.proofs.contigs.reaches_of.Given as goal

abbrev pub invariant-loop-place : goal.invariant-loop-place
invariant-loop-place l = AreReaches l.count (take l.place-index l.places) l.reaches.items
