use Rattle.std.proofs.Common.{ℕ, ◌≤◌}
use Rattle.row_model.specs.Graph.{JoinedBy}
use Rattle.row_model.specs.declared.graph.Why.TheVariants.{Flip, Row}
use Rattle.walk_search.proofs.reason.joined.Given as goal

abbrev pub invariant-loop-row : goal.invariant-loop-row
invariant-loop-row l = (JoinedBy l.m.columns l.m.rows l.v l.w Flip → ⊥) × ((k : ℕ) → k ≤ l.row → JoinedBy l.m.columns l.m.rows l.v l.w (Row k) → ⊥)
