use Rattle.std.proofs.Common.{arith}
use Rattle.pair_classes.proofs.UnionLaws.{flattening_more}
use Rattle.pair_classes.proofs.unions.flatten.Goals as goal

pub loop-place-preserved : goal.loop-place-preserved
loop-place-preserved c = flattening_more c.args.parents.now c.loop-place.parents c.loop-place.place c.loop-place.invariant (omega (arith, c.loop-place-test.true, c.loop-place.auto.parents))
