use Rattle.std.proofs.Common.{arith}
use Rattle.std.proofs.lemmas.Bool.{both_ways}
use Rattle.verdict_judge.proofs.CycleTests.{joined_here}
use Rattle.verdict_judge.proofs.Lines.{each_more, least_here}
use Rattle.verdict_judge.proofs.cycle.first_unjoined.Goals as goal

pub returns-then-not-joined_counted-clause-least : goal.returns-then-not-joined_counted-clause-least
returns-then-not-joined_counted-clause-least g c =
    least_here _ _ _ c.loop-i-test.true c.loop-i.invariant.joined (λ p.
    both_ways c.joined_counted.result c.if-not-joined_counted.true
    ((joined_here _ _ _ _ _ _ c.loop-i-test.true c.next_pair.ensures c.joined_counted.ensures.joined).1 p))

pub loop-i-preserved : goal.loop-i-preserved
loop-i-preserved g c =
    record {
      joined = each_more _ _ c.loop-i.invariant.joined
          ((joined_here _ _ _ _ _ _ c.loop-i-test.true c.next_pair.ensures c.joined_counted.ensures.joined).0 c.if-not-joined_counted.false);
      ticks = omega (arith, c.loop-i.invariant.ticks, c.joined_counted.ensures.ticks);
    }
