use Rattle.pair_classes.specs.Unions.{Climbs}
use Rattle.pair_classes.proofs.unions.root_of.Given as goal

abbrev pub invariant-loop-parents : goal.invariant-loop-parents
invariant-loop-parents l = Climbs l.fn.parents l.parents l.place l.here

abbrev pub decreases-loop-parents : goal.decreases-loop-parents
decreases-loop-parents l = l.here
