-- Models of a graph by intervals of one length (Roberts, 1969).
use Rattle.std.specs.Prelude.{◌≡◌, ◌≢◌, ◌↔◌, ℕ, ◌+◌, ◌-◌, ◌≤◌, List, length, map, slice_index, IsTrue}
use Rattle.row_model.specs.declared.lists.Interval.{Interval}
use Rattle.graph_model.specs.Graphs.{GraphValue, has_edge}
use Rattle.proper_interval.specs.Models.{IsVertex}

-- the number of a vertex, as its left end, where a list has one for each vertex in turn
abbrev pub at_vertex : List ℕ → ℕ → ℕ
at_vertex list v = slice_index list (v - 1)

-- two left ends differ by at most the length
abbrev pub DifferByAtMost : ℕ → ℕ → ℕ → Type 0
DifferByAtMost m a b = (a ≤ b + m) × (b ≤ a + m)

-- a length of at least 1 and a left end for each vertex, such that the left ends of two distinct vertices differ by at
-- most the length exactly where the vertices are adjacent
pub record IsUnitModel (g : GraphValue) (m : ℕ) (lefts : List ℕ) : Type 0 where
  pub positive : 1 ≤ m
  pub count : length lefts ≡ g.vertices
  pub near : (u v : ℕ) → IsVertex g u → IsVertex g v → u ≢ v → DifferByAtMost m (at_vertex lefts u) (at_vertex lefts v) ↔ IsTrue (has_edge g.neighbours u v)

-- the left ends of intervals
abbrev pub lefts_of : List Interval → List ℕ
lefts_of list = map (λ (a : Interval). a.left) list
