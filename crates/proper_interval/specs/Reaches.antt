-- The interval of a vertex by the positions of all vertices.
use Rattle.std.specs.Prelude.{◌≡◌, ◌⊎◌, ℕ, ◌-◌, ◌≤◌, List, [], IsTrue, slice_index_or}
use Rattle.column_order.specs.Orders.{has, IsOrder}
use Rattle.row_model.specs.Positions.{position_of, ArePositions}
use Rattle.row_model.specs.declared.lists.Interval.{Interval}
use Rattle.graph_model.specs.Graphs.{GraphValue}
use Rattle.proper_interval.specs.Formula.{interval_at}

-- positions of the vertices in some order
pub record ArePositionsOf (g : GraphValue) (positions : List ℕ) : Type 0 where
  pub o : List ℕ
  pub order : IsOrder g.vertices o
  pub places : ArePositions o positions

-- the greatest of a position and those of the neighbours
pub record IsFarthest (positions neighbours : List ℕ) (position last : ℕ) : Type 0 where
  pub from : position ≤ last
  pub reached : (last ≡ position) ⊎ ((v : ℕ) × (IsTrue (has neighbours v) × (position_of positions v ≡ last)))
  pub whole : (v : ℕ) → IsTrue (has neighbours v) → position_of positions v ≤ last

-- the interval of a vertex from its position and the farthest of its neighbours
pub record IsIntervalBy (g : GraphValue) (positions : List ℕ) (v : ℕ) (a : Interval) : Type 0 where
  pub last : ℕ
  pub farthest : IsFarthest positions (slice_index_or g.neighbours (v - 1) []) (position_of positions v) last
  pub is : a ≡ interval_at g.vertices (position_of positions v) last
