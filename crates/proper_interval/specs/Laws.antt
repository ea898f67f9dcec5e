-- What the closed rows and the proper models say of the umbrella orders (Roberts, 1969).
use Rattle.std.specs.Prelude.{◌≡◌, ◌⊎◌, ◌↔◌, List, ℕ, length, IsTrue}
use Rattle.column_order.specs.Orders.{has, IsValidOrder, HasValidOrder}
use Rattle.row_model.specs.Rows.{IsRow}
use Rattle.row_model.specs.Graph.{row_at}
use Rattle.row_model.specs.declared.lists.Interval.{Interval}
use Rattle.graph_model.specs.Graphs.{GraphValue, IsGraph, has_edge}
use Rattle.proper_interval.specs.Umbrellas.{closed_to, closed_of, IsUmbrellaOrder}
use Rattle.proper_interval.specs.Models.{IsVertex, IsProperModel}
use Rattle.proper_interval.specs.Formula.{AreIntervals}

-- there is one closed row for each vertex
abbrev pub ClosedCountLaw : Type 0
ClosedCountLaw = (g : GraphValue) → length (closed_of g).rows ≡ g.vertices

-- row v is a row over the vertices, and has v and its neighbours
abbrev pub ClosedRowLaw : Type 0
ClosedRowLaw =
    (g : GraphValue) (v : ℕ) →
    IsVertex g v →
    IsRow g.vertices (row_at (closed_of g).rows v) ×
    ((a : ℕ) → IsVertex g a → IsTrue (has (row_at (closed_of g).rows v) a) ↔ ((a ≡ v) ⊎ IsTrue (has_edge g.neighbours v a)))

-- an order of the vertices is an umbrella order exactly where it is a valid order of the closed rows
abbrev pub UmbrellaLaw : Type 0
UmbrellaLaw =
    (g : GraphValue) (o : List ℕ) →
    IsGraph g →
    IsUmbrellaOrder g o ↔ IsValidOrder g.vertices (closed_to g g.vertices) o

-- a graph that has a proper model has an umbrella order
abbrev pub ModelLaw : Type 0
ModelLaw =
    (g : GraphValue) (list : List Interval) →
    IsGraph g →
    IsProperModel g list →
    (o : List ℕ) × IsUmbrellaOrder g o

-- the intervals of an umbrella order are a proper model
abbrev pub IntervalsLaw : Type 0
IntervalsLaw =
    (g : GraphValue) (o : List ℕ) (list : List Interval) →
    IsGraph g →
    IsUmbrellaOrder g o →
    AreIntervals g o list →
    IsProperModel g list

-- an umbrella order has exactly one list of intervals
abbrev pub OneListLaw : Type 0
OneListLaw =
    (g : GraphValue) (o : List ℕ) →
    IsGraph g →
    IsUmbrellaOrder g o →
    (list : List Interval) × (AreIntervals g o list × ((other : List Interval) → AreIntervals g o other → other ≡ list))

-- a graph has a proper model exactly where its closed rows have a valid order
abbrev pub ProperLaw : Type 0
ProperLaw =
    (g : GraphValue) →
    IsGraph g →
    ((list : List Interval) × IsProperModel g list) ↔ HasValidOrder g.vertices (closed_to g g.vertices)
