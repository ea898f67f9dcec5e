use Rattle.std.proofs.Common.{ℕ, ◌<◌, List, get_or}
use Rattle.column_order.specs.Orders.{Keeps}
use Rattle.row_model.proofs.matrix.Matrix.keeps.Given as goal

abbrev pub invariant-loop-k : goal.invariant-loop-k
invariant-loop-k l = (k : ℕ) (d : List ℕ) → k < l.k → Keeps l.order (get_or l.self.rows k d)
