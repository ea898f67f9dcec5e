use Rattle.std.proofs.Common.{arith}
use Rattle.std.proofs.lemmas.Result.{IfOk-weaker}
use Rattle.border_ways.proofs.sample.sample_of.Goals as goal

pub loop-i-init : goal.loop-i-init
loop-i-init g c = omega arith

pub has_counted-has-requires : goal.has_counted-has-requires
has_counted-has-requires g c = c.requires

pub loop-i-preserved : goal.loop-i-preserved
loop-i-preserved g c = omega (arith, c.loop-i.invariant, c.has_counted-has.ensures.ticks)

pub returns-in_err-add-clause-ticks : goal.returns-in_err-add-clause-ticks
returns-in_err-add-clause-ticks g c = omega (arith, c.loop-i.invariant, c.has_counted-has.ensures.ticks, c.loop-i-test.true)

pub returns-clause-ticks : goal.returns-clause-ticks
returns-clause-ticks g c = omega (arith, c.loop-i.invariant, c.loop-i.auto.i-end)

pub returns-clause-few : goal.returns-clause-few
returns-clause-few g c = c.into_sample.ensures.few

pub returns-clause-turns : goal.returns-clause-turns
returns-clause-turns g c = IfOk-weaker c.into_sample.result _ _ (λ sample few. omega (arith, c.loop-i.invariant, c.loop-i-test.false)) c.into_sample.ensures.few
