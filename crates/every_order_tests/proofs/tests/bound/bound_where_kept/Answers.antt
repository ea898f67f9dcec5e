use Rattle.std.proofs.Common.{◌∙◌, List, ℕ, subst}
use Rattle.std.specs.Prelude.{All}
use Rattle.column_order.specs.Orders.{Keeps}
use Rattle.every_order_tests.proofs.tests.bound.bound_where_kept.Goals as goal

pub is_complete-requires-clause-kept : goal.is_complete-requires-clause-kept
is_complete-requires-clause-kept c =
    subst (λ (l : List ℕ). All (Keeps l) c.args.m.now.rows) (c.deref.ensures.value ∙ c.in_ok-frontier.ensures.leaves)
    (c.in_ok-kept.ensures.0 c.if-not-kept.false)
