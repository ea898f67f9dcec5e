-- Models of a graph by intervals of whole numbers (Roberts, 1969).
use Rattle.std.specs.Prelude.{◌≡◌, ◌≢◌, ◌↔◌, ℕ, ◌-◌, ◌≤◌, List, length, slice_index_or, IsTrue}
use Rattle.row_model.specs.declared.lists.Interval.{Interval}
use Rattle.graph_model.specs.Graphs.{GraphValue, has_edge}

-- a vertex of the graph
abbrev pub IsVertex : GraphValue → ℕ → Type 0
IsVertex g v = (1 ≤ v) × (v ≤ g.vertices)

-- the interval of a vertex, where a list has one for each vertex in turn
abbrev pub interval_of : List Interval → ℕ → Interval
interval_of list v = slice_index_or list (v - 1) (record { left = 0; right = 0 })

-- the left end is at most the right end
abbrev pub EndsInOrder : Interval → Type 0
EndsInOrder a = a.left ≤ a.right

-- the number lies in the interval
abbrev pub LiesIn : ℕ → Interval → Type 0
LiesIn n a = (a.left ≤ n) × (n ≤ a.right)

-- some number lies in both intervals
abbrev pub ShareNumber : Interval → Interval → Type 0
ShareNumber a b = (n : ℕ) × (LiesIn n a × LiesIn n b)

-- every number of the second interval lies in the first
abbrev pub ContainsInterval : Interval → Interval → Type 0
ContainsInterval a b = (n : ℕ) → LiesIn n b → LiesIn n a

-- one interval for each vertex; those of two distinct vertices share a number exactly where the vertices are adjacent,
-- and none contains another unless they are equal
pub record IsProperModel (g : GraphValue) (list : List Interval) : Type 0 where
  pub count : length list ≡ g.vertices
  pub ends : (v : ℕ) → IsVertex g v → EndsInOrder (interval_of list v)
  pub meet : (u v : ℕ) → IsVertex g u → IsVertex g v → u ≢ v → ShareNumber (interval_of list u) (interval_of list v) ↔ IsTrue (has_edge g.neighbours u v)
  pub proper : (u v : ℕ) → IsVertex g u → IsVertex g v → ContainsInterval (interval_of list u) (interval_of list v) → interval_of list u ≡ interval_of list v
