use Rattle.std.proofs.Common.{ℕ, List, take, All}
use Rattle.row_model.specs.Rows.{IsRow}
use Rattle.clone_map.specs.Places.{ArePlaces}
use Rattle.column_order.specs.Orders.{IsOrder}
use Rattle.row_model.specs.Positions.{ArePositions}
use Rattle.clone_map.proofs.places.places_of.Given as goal

abbrev pub invariant-loop-k : goal.invariant-loop-k
invariant-loop-k l = record {
  places : (order : List ℕ) → IsOrder l.m.columns order → ArePositions order l.positions → ArePlaces order (take l.k l.m.rows) l.places;
  rows : All (IsRow l.m.columns) (take l.k l.m.rows);
}
