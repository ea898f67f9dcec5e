use Rattle.std.proofs.Common.{◌≡◌, ◌+◌, ◌-◌, ◌<◌, ◌≤◌, ◌||◌, ℕ, true, length, drop, get_or}
use Rattle.column_order.specs.Orders.{has}
use Rattle.row_model.specs.Rows.{IsRow}
use Rattle.graph_read.proofs.places.take_row.Given as goal

abbrev pub invariant-loop-at : goal.invariant-loop-at
invariant-loop-at l = record {
  range : (l.from ≤ l.at) × (l.at ≤ length l.places);
  last : l.last ≤ l.right;
  row : IsRow l.last l.list.items;
  known : 1 ≤ l.last → has l.list.items l.last ≡ true;
  later : (k : ℕ) → l.at ≤ k → k < length l.places → l.first + l.last ≤ get_or l.places k 0 + 1;
  above : (k : ℕ) → l.at ≤ k → k < length l.places → l.first ≤ get_or l.places k 0;
  so_far : (j : ℕ) → (has l.list.items (j + 1) || has (drop l.at l.places) (l.first + j)) ≡ has (drop l.from l.places) (l.first + j);
}

abbrev pub decreases-loop-at : goal.decreases-loop-at
decreases-loop-at l = length l.places - l.at
