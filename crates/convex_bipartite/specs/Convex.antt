-- Orders of a side of a bipartite graph in which the neighbours of each vertex of the other side are consecutive (Glover, 1967).
use Rattle.std.specs.Prelude.{◌↔◌, ℕ, ◌<◌, ◌≤◌, List, length, slice_index, IsTrue}
use Rattle.column_order.specs.Orders.{IsOrder, IsValidOrder}
use Rattle.graph_model.specs.Graphs.{BigraphValue, IsBigraph, has_edge}
use Rattle.convex_bipartite.specs.Sides.{left_rows, right_rows}

-- an order of the right side: where an x has edges to two ys, it has one to each y between them
pub record IsConvexOnRight (g : BigraphValue) (o : List ℕ) : Type 0 where
  pub order : IsOrder g.right o
  pub between : (x i j k : ℕ) → 1 ≤ x → x ≤ g.left → i < j → j < k → k < length o →
      IsTrue (has_edge g.neighbours x (slice_index o i)) →
      IsTrue (has_edge g.neighbours x (slice_index o k)) →
      IsTrue (has_edge g.neighbours x (slice_index o j))

-- an order of the left side: where a y has edges to two xs, it has one to each x between them
pub record IsConvexOnLeft (g : BigraphValue) (o : List ℕ) : Type 0 where
  pub order : IsOrder g.left o
  pub between : (y i j k : ℕ) → 1 ≤ y → y ≤ g.right → i < j → j < k → k < length o →
      IsTrue (has_edge g.neighbours (slice_index o i) y) →
      IsTrue (has_edge g.neighbours (slice_index o k) y) →
      IsTrue (has_edge g.neighbours (slice_index o j) y)

-- the valid orders of the left side's neighbourhoods are exactly the convex orders of the right side
abbrev pub RightLaw : Type 0
RightLaw =
    (g : BigraphValue) (o : List ℕ) →
    IsBigraph g →
    IsValidOrder (left_rows g).columns (left_rows g).rows o ↔ IsConvexOnRight g o

-- the valid orders of the right side's neighbourhoods are exactly the convex orders of the left side
abbrev pub LeftLaw : Type 0
LeftLaw =
    (g : BigraphValue) (o : List ℕ) →
    IsBigraph g →
    IsValidOrder (right_rows g).columns (right_rows g).rows o ↔ IsConvexOnLeft g o
