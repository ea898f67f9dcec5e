use Rattle.std.proofs.Common.{refl, arith, below_more}
use Rattle.verdict_judge.specs.Gaps.{LiesWithin, gap_at}
use Rattle.verdict_judge.proofs.gaps.all_within.Goals as goal

pub returns-clause-within : goal.returns-clause-within
returns-clause-within g c = (λ _ i l. c.loop-gap.invariant.within i (omega (arith, l, c.loop-gap-test.false)), λ _. refl)

pub loop-gap-preserved : goal.loop-gap-preserved
loop-gap-preserved g c = record { within = below_more (λ i. LiesWithin c.args.outer (gap_at c.args.gaps.now i)) c.loop-gap.gap-index c.loop-gap.invariant.within (c.lies_within.ensures.0 c.if-not-lies_within.false); ticks = omega (arith, c.tick.ensures, c.loop-gap.invariant.ticks) }

pub returns-clause-looks : goal.returns-clause-looks
returns-clause-looks g c = λ k l _. omega (arith, l, c.loop-gap.invariant.ticks, c.loop-gap-test.false)
