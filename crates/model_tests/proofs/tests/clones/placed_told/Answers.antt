use Rattle.std.proofs.Common.{subst}
use Rattle.column_order.specs.Orders.{IsOrder}
use Rattle.model_tests.proofs.tests.clones.placed_told.Goals as goal

pub place-requires : goal.place-requires
place-requires c =
    record {
      order = subst (λ n. IsOrder n c.args.order.now) c.columns.ensures.columns (c.in_ok-is_order.ensures.0 c.if-not-branch.false);
      kept = c.in_ok-keeps.ensures.0 c.if-not-branch-2.false;
    }
