use Rattle.pair_classes.proofs.UnionLaws.{climbs_none, climbs_more}
use Rattle.pair_classes.proofs.unions.root_of.Goals as goal

pub loop-parents-init : goal.loop-parents-init
loop-parents-init c = climbs_none c.args.parents.now c.args.place c.requires.parents c.requires.place

pub loop-parents-preserved : goal.loop-parents-preserved
loop-parents-preserved c = climbs_more c.args.parents.now c.loop-parents.parents c.args.place c.loop-parents.here c.loop-parents.invariant c.loop-parents-test.true
