-- The closed rows of a graph, and its umbrella orders (Roberts, 1969).
use Rattle.std.specs.Prelude.{ℕ, Bool, ◌==◌, ◌||◌, ◌<◌, List, length, map, slice_index, IsTrue}
use Rattle.std.specs.List.{range_with_len}
use Rattle.column_order.specs.Orders.{IsOrder}
use Rattle.row_model.specs.Rows.{RowList, columns_where}
use Rattle.graph_model.specs.Graphs.{GraphValue, has_edge}

-- whether a vertex is v or one of its neighbours
abbrev pub is_in_closed : GraphValue → ℕ → ℕ → Bool
is_in_closed g v a = (v == a) || has_edge g.neighbours v a

-- the vertex with its neighbours, in ascending order
abbrev pub closed_row : GraphValue → ℕ → List ℕ
closed_row g v = columns_where g.vertices (is_in_closed g v)

-- the closed rows of the vertices 1 to n
abbrev pub closed_to : GraphValue → ℕ → List (List ℕ)
closed_to g n = map (closed_row g) (range_with_len 1 n)

-- the matrix whose columns are the vertices, with the closed row of each
abbrev pub closed_of : GraphValue → RowList
closed_of g = record { columns = g.vertices; rows = closed_to g g.vertices }

-- an order of the vertices in which, for u before v before w, an edge uw implies the edges uv and vw
pub record IsUmbrellaOrder (g : GraphValue) (o : List ℕ) : Type 0 where
  pub order : IsOrder g.vertices o
  pub under : (i j k : ℕ) → i < j → j < k → k < length o → IsTrue (has_edge g.neighbours (slice_index o i) (slice_index o k)) →
      IsTrue (has_edge g.neighbours (slice_index o i) (slice_index o j)) × IsTrue (has_edge g.neighbours (slice_index o j) (slice_index o k))
