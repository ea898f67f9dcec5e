use Rattle.proper_interval.proofs.ReachLemmas.{farthest_of}
use Rattle.proper_interval.proofs.formula.farthest.Goals as goal

pub returns-in-Some : goal.returns-in-Some
returns-in-Some c = rw c.max.ensures (farthest_of c.args.positions.now c.args.neighbours.now c.args.position c.in-Some.span c.in-Some.ensures.least)
