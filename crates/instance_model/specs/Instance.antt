-- Instances, their textbook orders and their derived matrices.
use Rattle.std.specs.Prelude.{ℕ, zero, suc, ◌≤◌, List, [], ◌∷◌, length}
use Rattle.column_order.specs.Orders.{IsValidOrder}
use Rattle.row_model.specs.declared.TheConstants.{MAX_COLUMNS, MAX_ROWS, MAX_ITEMS}
use Rattle.row_model.specs.declared.kind.Kind.{Kind}
use Rattle.row_model.specs.declared.kind.Kind.TheVariants as kind
use Rattle.row_model.specs.Rows.{RowList}
use Rattle.graph_model.specs.Graphs.{BigraphValue, IsBigraph, GraphValue, IsGraph}
use Rattle.graph_model.specs.Distances.{DistancesValue, IsDistances}
use Rattle.circular_ones.specs.Circular.{IsCircularOrder, cut}
use Rattle.convex_bipartite.specs.Sides.{left_rows, right_rows}
use Rattle.convex_bipartite.specs.Convex.{IsConvexOnRight, IsConvexOnLeft}
use Rattle.proper_interval.specs.Umbrellas.{IsUmbrellaOrder, closed_of}
use Rattle.robinson_balls.specs.Balls.{IsRobinsonOrder, balls_of}

-- an instance, by what its file holds; a matrix that stands for itself comes with the kind of its file
pub data InstanceValue : Type 0 where
  plain : (kind : Kind) (matrix : RowList) → InstanceValue
  circular : (matrix : RowList) → InstanceValue
  convex : (graph : BigraphValue) → InstanceValue
  doubly : (graph : BigraphValue) → InstanceValue
  proper : (graph : GraphValue) → InstanceValue
  robinson : (distances : DistancesValue) → InstanceValue

-- the kind
abbrev pub instance_kind : InstanceValue → Kind
instance_kind (plain kind matrix) = kind
instance_kind (circular matrix) = kind.Circular
instance_kind (convex graph) = kind.Convex
instance_kind (doubly graph) = kind.Doubly
instance_kind (proper graph) = kind.Proper
instance_kind (robinson distances) = kind.Robinson

-- the numbers of columns, side by side
abbrev pub instance_columns : InstanceValue → List ℕ
instance_columns (plain kind matrix) = matrix.columns ∷ []
instance_columns (circular matrix) = matrix.columns ∷ []
instance_columns (convex graph) = graph.right ∷ []
instance_columns (doubly graph) = graph.right ∷ graph.left ∷ []
instance_columns (proper graph) = graph.vertices ∷ []
instance_columns (robinson distances) = distances.items ∷ []

-- the sides count from 1
abbrev pub IsSideOf : InstanceValue → ℕ → Type 0
IsSideOf i s = (1 ≤ s) × (s ≤ length (instance_columns i))

-- of two sides: an order of the ys that keeps the neighbours of each x is one of side 1, and an order of the xs that keeps those of each y
-- is one of side 2
abbrev pub IsOrderOfSide : BigraphValue → ℕ → List ℕ → Type 0
IsOrderOfSide graph zero o = ⊥
IsOrderOfSide graph (suc zero) o = IsConvexOnRight graph o
IsOrderOfSide graph (suc (suc s)) o = IsConvexOnLeft graph o

-- The textbook orders of a side: the valid orders of a matrix, its circular orders, the convex orders of a bipartite graph, the umbrella
-- orders of a graph, the Robinson orders of a table of distances.
abbrev pub IsTextbookOrder : InstanceValue → ℕ → List ℕ → Type 0
IsTextbookOrder (plain kind matrix) s o = IsValidOrder matrix.columns matrix.rows o
IsTextbookOrder (circular matrix) s o = IsCircularOrder matrix.columns matrix.rows o
IsTextbookOrder (convex graph) s o = IsConvexOnRight graph o
IsTextbookOrder (doubly graph) s o = IsOrderOfSide graph s o
IsTextbookOrder (proper graph) s o = IsUmbrellaOrder graph o
IsTextbookOrder (robinson distances) s o = IsRobinsonOrder distances o

-- each side has a textbook order
abbrev pub HasTextbookOrder : InstanceValue → Type 0
HasTextbookOrder i = (s : ℕ) → IsSideOf i s → (o : List ℕ) × IsTextbookOrder i s o

-- the rows of the two sides: the neighbours of each x, and those of each y
abbrev pub rows_of_side : BigraphValue → ℕ → RowList
rows_of_side graph zero = left_rows graph
rows_of_side graph (suc zero) = left_rows graph
rows_of_side graph (suc (suc s)) = right_rows graph

-- The derived matrix of a side: a matrix itself, or its rows cut at column 1; the neighbours of each x, or of each y; each vertex with its
-- neighbours; the balls round each item.
abbrev pub derived_matrix : InstanceValue → ℕ → RowList
derived_matrix (plain kind matrix) s = matrix
derived_matrix (circular matrix) s = cut matrix
derived_matrix (convex graph) s = left_rows graph
derived_matrix (doubly graph) s = rows_of_side graph s
derived_matrix (proper graph) s = closed_of graph
derived_matrix (robinson distances) s = balls_of distances

-- the kinds whose instances are matrices that stand for themselves
abbrev pub IsPlainKind : Kind → Type 0
IsPlainKind kind.Matrix = Unit {0}
IsPlainKind kind.Rows = Unit {0}
IsPlainKind kind.Table = Unit {0}
IsPlainKind kind.Clones = Unit {0}
IsPlainKind other = ⊥

-- what an instance holds is what its type says: a graph, a bipartite graph, a table of distances
abbrev pub IsWellFormed : InstanceValue → Type 0
IsWellFormed (plain kind matrix) = Unit {0}
IsWellFormed (circular matrix) = Unit {0}
IsWellFormed (convex graph) = IsBigraph graph
IsWellFormed (doubly graph) = IsBigraph graph
IsWellFormed (proper graph) = IsGraph graph
IsWellFormed (robinson distances) = IsDistances distances

-- an instance of a kind of its form, within the limits
abbrev pub IsInstance : InstanceValue → Type 0
IsInstance (plain kind matrix) = IsPlainKind kind × (matrix.columns ≤ MAX_COLUMNS) × (length matrix.rows ≤ MAX_ROWS)
IsInstance (circular matrix) = (matrix.columns ≤ MAX_COLUMNS) × (length matrix.rows ≤ MAX_ROWS)
IsInstance (convex graph) = (graph.left ≤ MAX_ROWS) × (graph.right ≤ MAX_COLUMNS)
IsInstance (doubly graph) = (graph.left ≤ MAX_COLUMNS) × (graph.right ≤ MAX_COLUMNS)
IsInstance (proper graph) = graph.vertices ≤ MAX_COLUMNS
IsInstance (robinson distances) = distances.items ≤ MAX_ITEMS
