use Rattle.std.proofs.Common.{◌∙◌}
use Rattle.verdict_judge.proofs.GapNew.{shallow, order_of, few, made}
use Rattle.verdict_judge.proofs.gaps.Gaps.new.Goals as goal

pub push_gaps-requires-clause-shallow : goal.push_gaps-requires-clause-shallow
push_gaps-requires-clause-shallow c = shallow c.args.tree.now c.root.result.now c.root.ensures c.requires

pub positions-requires-clause-order : goal.positions-requires-clause-order
positions-requires-clause-order c = order_of c.args.tree.now c.deref.result.now (c.deref.ensures.value ∙ c.in_ok-order.ensures.leaves)

pub positions-requires-clause-few : goal.positions-requires-clause-few
positions-requires-clause-few c = few c.args.tree.now c.deref.result.now (c.deref.ensures.value ∙ c.in_ok-order.ensures.leaves) c.requires

pub returns : goal.returns
returns c =
    made c.args.tree.now _ _ c.in_ok-gaps.gaps.items c.in_ok-gaps.ensures.items
    (c.in_ok-push.ensures.items)
    c.root.result.now c.in_ok-push_gaps.ensures c.root.ensures
    c.deref.result.now (c.deref.ensures.value ∙ c.in_ok-order.ensures.leaves) c.in_ok-positions.ensures
