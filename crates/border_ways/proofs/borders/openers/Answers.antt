use Rattle.std.proofs.Common.{length, ap, arith}
use Rattle.border_ways.proofs.borders.openers.Goals as goal

pub loop-a-init : goal.loop-a-init
loop-a-init c = omega (arith, ap length c.new-rows.ensures.items)

pub loop-b-init : goal.loop-b-init
loop-b-init c = omega arith

pub loop-a-preserved : goal.loop-a-preserved
loop-a-preserved c = omega (arith, c.loop-a.invariant, c.loop-b.invariant, c.loop-b.auto.b-index-end, c.requires.few)

pub returns : goal.returns
returns c = record { few = omega (arith, c.loop-a.invariant, c.loop-a.auto.a-index-end) }
