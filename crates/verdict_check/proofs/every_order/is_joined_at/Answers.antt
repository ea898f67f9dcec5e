use Rattle.std.proofs.Common.{◌-◌, length, arith}
use Rattle.verdict_check.specs.Complete.{pair_at}
use Rattle.verdict_check.proofs.Together.{both_sides, one_side}
use Rattle.verdict_check.proofs.every_order.is_joined_at.Goals as goal

pub returns-then-are_alike : goal.returns-then-are_alike
returns-then-are_alike c =
    both_sides c.args.classes.now (length c.args.line.now) c.args.start c.args.end c.args.at (λ R i. R (pair_at c.args.line.now (c.args.at - 1) i) (pair_at c.args.line.now c.args.at i)) c.are_alike.result c.are_alike.ensures
    c.are_alike-then-are_alike.result (omega arith) c.if-are_alike.true c.are_alike-then-are_alike.ensures

pub returns-else-are_alike : goal.returns-else-are_alike
returns-else-are_alike c =
    one_side c.args.classes.now (length c.args.line.now) c.args.start c.args.end c.args.at (λ R i. R (pair_at c.args.line.now (c.args.at - 1) i) (pair_at c.args.line.now c.args.at i)) c.are_alike.result c.are_alike.ensures
    (omega arith) (omega arith) c.if-are_alike.false
