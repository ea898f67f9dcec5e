-- Walks and distances in a graph, and the components by an order of the vertices.
use Rattle.std.specs.Prelude.{◌≡◌, ℕ, zero, suc, ◌≤◌, List, IsTrue}
use Rattle.column_order.specs.Orders.{place}
use Rattle.graph_model.specs.Graphs.{GraphValue, has_edge}
use Rattle.proper_interval.specs.Models.{IsVertex}

-- there is a walk of so many edges from the first vertex to the second
abbrev pub Walks : GraphValue → ℕ → ℕ → ℕ → Type 0
Walks g zero u v = u ≡ v
Walks g (suc k) u v = (w : ℕ) × (IsVertex g w × Walks g k u w × IsTrue (has_edge g.neighbours w v))

-- the distance of two vertices: the least number of edges of a walk from one to the other
pub record IsDistance (g : GraphValue) (u v k : ℕ) : Type 0 where
  pub walk : Walks g k u v
  pub least : (j : ℕ) → Walks g j u v → k ≤ j

-- f is the first vertex, in the order, of the component of v
pub record IsFirstOf (g : GraphValue) (o : List ℕ) (f v : ℕ) : Type 0 where
  pub vertex : IsVertex g f
  pub walk : (k : ℕ) × Walks g k f v
  pub first : (u k : ℕ) → IsVertex g u → Walks g k u v → place o f ≤ place o u
