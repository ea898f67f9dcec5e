use Rattle.pair_classes.proofs.UnionLaws.{IsFlattening}
use Rattle.pair_classes.proofs.unions.flatten.Given as goal

abbrev pub invariant-loop-place : goal.invariant-loop-place
invariant-loop-place l = IsFlattening l.fn.parents l.parents l.place
