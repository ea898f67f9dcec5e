use Rattle.std.proofs.Common.{inr, arith}
use Rattle.bound_tree.proofs.Push.{one_more, all_gaps}
use Rattle.bound_tree.proofs.stretch.push_whole.Goals as goal

pub loop-i-preserved : goal.loop-i-preserved
loop-i-preserved c = record { all = one_more _ _ _ _ _ c.loop-i.auto.i c.loop-i.invariant.all c.in_ok-push.ensures.items; room = inr (omega arith) }

pub returns : goal.returns
returns c = all_gaps _ _ _ c.loop-i.i _ (omega (arith, c.loop-i.invariant.room, c.loop-i.auto.i, c.loop-i.auto.i-end, c.loop-i-test.false, c.requires)) c.loop-i.invariant.all
