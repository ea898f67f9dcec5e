use Rattle.std.proofs.Common.{rules}
use Rattle.pq_plain.proofs.Marks.{front_more, front_here, front_all}
use Rattle.pq_plain.proofs.label.leading.Goals as goal

pub loop-i-preserved : goal.loop-i-preserved
loop-i-preserved c = front_more _ _ _ _ c.loop-i-test.true c.index-labels-i.is (c.is.ensures.0 c.if-not-is.false) c.loop-i.invariant

pub returns-then-not-is-clause-count : goal.returns-then-not-is-clause-count
returns-then-not-is-clause-count c = front_here c.args.wanted _ _ _ c.loop-i-test.true c.index-labels-i.is (search rules) c.loop-i.invariant

pub returns-clause-count : goal.returns-clause-count
returns-clause-count c = front_all c.args.wanted _ _ c.loop-i-test.false c.loop-i.auto.i-end c.loop-i.invariant
