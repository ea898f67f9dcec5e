-- Graphs as contracts see them: for each vertex, the list of the vertices that it has an edge to.
use Rattle.std.specs.Prelude.{◌≡◌, ℕ, suc, ◌≤◌, ◌-◌, ◌==◌, ◌||◌, ◌&&◌, nat_lt, Bool, false, List, [], ◌∷◌, length, if◌then◌else◌, slice_index_or, All}
use Rattle.column_order.specs.Orders.{has}
use Rattle.column_order.specs.declared.TheConstants.{COLUMN_BOUND}
use Rattle.row_model.specs.Rows.{IsRow}
use Rattle.graph_model.specs.declared.TheConstants.{LEFT_BOUND}

-- whether x, which has the x-th list, from 1, has an edge to y
abbrev pub has_edge : List (List ℕ) → ℕ → ℕ → Bool
has_edge lists x y = has (slice_index_or lists (x - 1) []) y

-- the new lists have the edges of the old ones, and that from x to y
abbrev pub HasOneMore : List (List ℕ) → ℕ → ℕ → List (List ℕ) → Type 0
HasOneMore old x y new = (a b : ℕ) → 1 ≤ a → has_edge new a b ≡ (has_edge old a b || ((a == x) && (b == y)))

-- the new lists have the edges of the old ones, and those from u to v and from v to u
abbrev pub HasTwoMore : List (List ℕ) → ℕ → ℕ → List (List ℕ) → Type 0
HasTwoMore old u v new =
    (a b : ℕ) → 1 ≤ a → has_edge new a b ≡ ((has_edge old a b || ((a == u) && (b == v))) || ((a == v) && (b == u)))

-- a bipartite graph: the sizes of its two sides, and for each x of the left side the list of its ys
pub record BigraphValue : Type 0 where
  pub left : ℕ
  pub right : ℕ
  pub neighbours : List (List ℕ)

-- sizes within their ranges, and for each x a strictly ascending list of ys
pub record IsBigraph (g : BigraphValue) : Type 0 where
  pub left : (1 ≤ g.left) × (g.left ≤ LEFT_BOUND)
  pub right : (1 ≤ g.right) × (g.right ≤ COLUMN_BOUND)
  pub lists : length g.neighbours ≡ g.left
  pub ascending : All (IsRow g.right) g.neighbours

-- a graph: the number of its vertices, and for each of them the list of its neighbours
pub record GraphValue : Type 0 where
  pub vertices : ℕ
  pub neighbours : List (List ℕ)

-- a number of vertices within its range, and for each vertex a strictly ascending list of neighbours; a neighbour has
-- the vertex as a neighbour, and no vertex is its own
pub record IsGraph (g : GraphValue) : Type 0 where
  pub vertices : (1 ≤ g.vertices) × (g.vertices ≤ COLUMN_BOUND)
  pub lists : length g.neighbours ≡ g.vertices
  pub ascending : All (IsRow g.vertices) g.neighbours
  pub symmetric : (u v : ℕ) → 1 ≤ u → 1 ≤ v → has_edge g.neighbours u v ≡ has_edge g.neighbours v u
  pub loopless : (v : ℕ) → 1 ≤ v → has_edge g.neighbours v v ≡ false

-- how many numbers at the front of a list lie below a number
abbrev pub below : ℕ → List ℕ → ℕ
below y [] = 0
below y (z ∷ row) = if nat_lt z y then suc (below y row) else 0

-- a strictly ascending list with one number more, in its place
abbrev pub with_number : ℕ → List ℕ → List ℕ
with_number y [] = y ∷ []
with_number y (z ∷ row) = if nat_lt z y then z ∷ with_number y row else y ∷ z ∷ row
