-- The complement of a row has exactly the other columns.
use Rattle.std.proofs.Common.{◌≡◌, ℕ, ◌≤◌, not, List}
use Rattle.column_order.specs.Orders.{has, IsOrder}
use Rattle.column_order.proofs.Counts.{order_within}
use Rattle.row_model.proofs.Filtered.{has_filtered, filtered_row}
use Rattle.row_model.specs.Rows.{IsRow}
use Rattle.circular_ones.specs.Circular.{complement}
use Rattle.circular_ones.proofs.Rotations.{AreOpposite}

pub has-complement : (c : ℕ) (row : List ℕ) (a : ℕ) → 1 ≤ a → a ≤ c → has (complement c row) a ≡ not (has row a)
has-complement c row a l u = has_filtered (λ b. not (has row b)) c a l u

pub complement_opposite : (c : ℕ) (row o : List ℕ) → IsOrder c o → AreOpposite o row (complement c row)
complement_opposite c row o h a k = let r = order_within c o h a k in has-complement c row a r.0 r.1

-- a complement ascends
pub complement_row : (c : ℕ) (row : List ℕ) → IsRow c (complement c row)
complement_row c row = filtered_row (λ a. not (has row a)) c
