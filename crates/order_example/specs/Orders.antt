-- What a tree, or none, says of a matrix.
use Rattle.std.specs.Prelude.{◌↔◌, ℕ, Option, Some, None, List}
use Rattle.column_order.specs.Orders.{IsValidOrder, HasValidOrder}
use Rattle.row_model.specs.Rows.{RowList}
use Rattle.pq_tree.specs.Outline.{IsFrontier}
use Rattle.pq_tree.specs.PqTree.{outline}
use Rattle.pq_tree.specs.declared.PqTree.{PqTree}

-- a tree whose frontiers are exactly the valid orders, or none where there is no valid order
abbrev pub TellsAllOrders : RowList → Option PqTree → Type 0
TellsAllOrders m (Some t) = (o : List ℕ) → IsFrontier (outline t) o ↔ IsValidOrder m.columns m.rows o
TellsAllOrders m None = HasValidOrder m.columns m.rows → ⊥
