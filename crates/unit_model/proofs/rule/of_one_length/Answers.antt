use Rattle.std.proofs.Common.{◌<◌, ◌^◌, refl, arith}
use Rattle.row_model.specs.declared.lists.Interval.{Interval}
use Rattle.unit_model.proofs.LengthLemmas.{HasLength, lefts_more, all_more, lefts_all}
use Rattle.unit_model.proofs.rule.of_one_length.Goals as goal

pub loop-left-preserved : goal.loop-left-preserved
loop-left-preserved c = record {
  lefts = lefts_more c.loop-left.list c.push.new.self c.args.lefts.now c.loop-left.left-index _ c.loop-left-test.true c.in_ok-push.ensures.ok refl c.loop-left.invariant.lefts;
  rights = all_more (HasLength c.args.length) c.loop-left.list c.push.new.self _ c.in_ok-push.ensures.ok (omega arith) c.loop-left.invariant.rights;
  within = all_more (λ (a : Interval). a.right < 2 ^ 64) c.loop-left.list c.push.new.self _ c.in_ok-push.ensures.ok
      (omega (arith, c.requires c.loop-left.left-index 0 c.loop-left-test.true, c.ranges.length.fits)) c.loop-left.invariant.within;
}

pub returns-clause-lefts : goal.returns-clause-lefts
returns-clause-lefts c = lefts_all c.loop-left.list c.args.lefts.now c.loop-left.left-index c.loop-left.auto.left-index-end c.loop-left-test.false c.loop-left.invariant.lefts

pub returns-clause-rights : goal.returns-clause-rights
returns-clause-rights c = c.loop-left.invariant.rights

pub returns-clause-within : goal.returns-clause-within
returns-clause-within c = c.loop-left.invariant.within
