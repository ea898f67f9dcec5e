use Rattle.std.proofs.Common.{◌≡◌, ◌*◌, ◌<◌, ◌≤◌, ℕ, List, length, drop, get_or}
use Rattle.column_order.specs.Orders.{has}
use Rattle.graph_read.specs.declared.edges.Edge.{Edge}
use Rattle.graph_read.specs.Edges.{lists_from}
use Rattle.graph_read.specs.Places.{ArePlaces}
use Rattle.graph_read.proofs.places.lists_at.Given as goal

abbrev pub invariant-loop-x : goal.invariant-loop-x
invariant-loop-x l = record {
  columns : l.lists.columns ≡ l.right;
  count : length l.lists.rows ≡ l.x;
  within : l.at ≤ length l.places;
  above : (k : ℕ) → l.at ≤ k → k < length l.places → l.x * l.right ≤ get_or l.places k 0;
  left_over : (p : ℕ) → l.x * l.right ≤ p → has (drop l.at l.places) p ≡ has l.places p;
  rows : (edges : List Edge) → ArePlaces l.left l.right edges l.places → l.lists.rows ≡ lists_from 1 l.x l.right edges;
}
