use Rattle.std.proofs.Common.{ℕ, All, subst}
use Rattle.column_order.specs.Orders.{IsOrder, Keeps}
use Rattle.row_model.specs.Rows.{RowList}
use Rattle.model_tests.proofs.tests.graphs.is_umbrella.Goals as goal

pub returns : goal.returns
returns c =
    let o = c.args.order.now in
    λ yes. (c.umbrella_law.ensures c.args.g.now o c.vertices.ensures.graph).1 (record {
      order = subst (λ (n : ℕ). IsOrder n o) c.vertices.ensures.vertices (c.in_ok-is_order.ensures.0 c.if-not-branch.false);
      kept = subst (λ (m : RowList). All (Keeps o) m.rows) c.in_ok-rows.ensures (c.in_ok-is_kept.ensures.0 yes);
    })
