use Rattle.pq_tree.proofs.Canonical.{fold_step, fold_all}
use Rattle.pq_tree.proofs.arrange.least_of_all.Goals as goal

pub loop-other-preserved : goal.loop-other-preserved
loop-other-preserved c = fold_step _ _ _ _ _ _ c.loop-other-test.true c.other-item.is c.loop-other.invariant c.min-least.ensures

pub returns : goal.returns
returns c = fold_all c.args.all.now c.in-Some.first.now c.in-Some.others.now _ _ c.in-Some.ensures.cases.0 c.loop-other-test.false c.loop-other.invariant
