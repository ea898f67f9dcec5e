use Rattle.clone_map.proofs.SweepLaws.{IsSwept}
use Rattle.clone_map.proofs.contigs.contigs_of.Given as goal

abbrev pub invariant-loop-i : goal.invariant-loop-i
invariant-loop-i l = IsSwept l.places l.i l.before l.reach l.contigs
