use Rattle.std.proofs.Common.{◌∙◌, arith}
use Rattle.order_list.proofs.Turned.{ends_left, ends_few, ends_turned}
use Rattle.order_list.proofs.turn.turn_low.Goals.{else-count-gt1-via-then-count-gt1+else-index, else-count-gt1-via-else-count-gt1}
use Rattle.order_list.proofs.turn.turn_low.Goals as goal

pub returns-then-index-clause-rise : goal.returns-then-index-clause-rise
returns-then-index-clause-rise c =
    ends_turned _ _ _ _ _ (c.len-count.ensures ∙ c.args.trees.now.ok.0) c.if-count-gt1.true c.index-then-count-gt1.ensures c.index.ensures c.if-index.true c.reverse.ensures.items

pub returns-else-count-gt1-clause-rise : goal.returns-else-count-gt1-clause-rise
returns-else-count-gt1-clause-rise c =
    elim c.else-count-gt1.branch [
      | else-count-gt1-via-then-count-gt1+else-index w ↦
          ends_left _ _ _ _ (c.len-count.ensures ∙ c.args.trees.now.ok.0) w.if-count-gt1.true w.index-then-count-gt1.ensures w.index.ensures w.if-index.false
      | else-count-gt1-via-else-count-gt1 w ↦ ends_few _ (omega (arith, c.len-count.ensures, c.args.trees.now.ok.0, w.if-count-gt1.false))
    ]
