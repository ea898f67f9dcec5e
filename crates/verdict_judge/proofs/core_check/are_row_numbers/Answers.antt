use Rattle.std.proofs.Common.{refl}
use Rattle.verdict_judge.proofs.RowTests.{ascends_here, ascends_from, ascends_end}
use Rattle.verdict_judge.proofs.core_check.are_row_numbers.Goals as goal

pub loop-k-preserved : goal.loop-k-preserved
loop-k-preserved c = (
  λ h. (ascends_here c.args.count c.loop-k.low c.args.rows.now c.loop-k.k-index 0 c.loop-k-test.true (c.loop-k.invariant.0 h)).2,
  λ h. c.loop-k.invariant.1 (ascends_from c.args.count c.loop-k.low c.args.rows.now c.loop-k.k-index 0 c.loop-k-test.true c.if-k-low.false c.if-k-count.false h),
)

pub returns : goal.returns
returns c = (
  λ t. c.loop-k.invariant.1 (ascends_end c.args.count c.loop-k.low c.args.rows.now c.loop-k.k-index c.loop-k-test.false),
  λ h. refl,
)
