-- The intervals that an umbrella order gives (Roberts, 1969). Positions count from 1.
use Rattle.std.specs.Prelude.{◌≡◌, ◌⊎◌, ℕ, ◌+◌, ◌-◌, ◌*◌, ◌≤◌, List, length, slice_index, IsTrue}
use Rattle.row_model.specs.declared.lists.Interval.{Interval}
use Rattle.graph_model.specs.Graphs.{GraphValue, has_edge}
use Rattle.proper_interval.specs.Models.{interval_of}

-- the vertex at a position
abbrev pub vertex_at : List ℕ → ℕ → ℕ
vertex_at o i = slice_index o (i - 1)

-- the positions are one, or there is an edge between the vertices at them
abbrev pub SameOrAdjacent : GraphValue → List ℕ → ℕ → ℕ → Type 0
SameOrAdjacent g o i j = (j ≡ i) ⊎ IsTrue (has_edge g.neighbours (vertex_at o i) (vertex_at o j))

-- the last position j at or after i with j = i or an edge between the vertices at i and j
pub record IsReach (g : GraphValue) (o : List ℕ) (i last : ℕ) : Type 0 where
  pub from : i ≤ last
  pub to : last ≤ g.vertices
  pub reached : SameOrAdjacent g o i last
  pub whole : (j : ℕ) → i ≤ j → j ≤ g.vertices → SameOrAdjacent g o i j → j ≤ last

-- among n vertices, the interval of the vertex at position i, which reaches to the position r
abbrev pub interval_at : ℕ → ℕ → ℕ → Interval
interval_at n i r = record { left = (n + 1) * i; right = (n + 1) * r + i }

-- one interval for each vertex: that of the position where it stands
pub record AreIntervals (g : GraphValue) (o : List ℕ) (list : List Interval) : Type 0 where
  pub count : length list ≡ g.vertices
  pub each : (i : ℕ) → 1 ≤ i → i ≤ g.vertices → (r : ℕ) × (IsReach g o i r × (interval_of list (vertex_at o i) ≡ interval_at g.vertices i r))
