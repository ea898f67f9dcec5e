-- The balls of a table of distances, and its Robinson orders (Mirkin and Rodin, 1984).
use Rattle.std.specs.Prelude.{ℕ, zero, suc, ◌+◌, ◌++◌, ◌<◌, ◌≤◌, nat_le, max, List, [], ◌∷◌, length, map, slice_index}
use Rattle.std.specs.List.{filter, range_with_len}
use Rattle.column_order.specs.Orders.{has, IsOrder}
use Rattle.row_model.specs.Rows.{RowList, columns_where}
use Rattle.graph_model.specs.Distances.{DistancesValue, distance}

-- the distance of two items
abbrev pub between : DistancesValue → ℕ → ℕ → ℕ
between d x y = distance d.items d.values x y

-- the ball round x of a radius: the items at a distance of at most the radius, in ascending order
abbrev pub ball : DistancesValue → ℕ → ℕ → List ℕ
ball d x radius = columns_where d.items (λ y. nat_le (between d x y) radius)

-- the distances of x from all items, itself included, item after item
abbrev pub distances_from : DistancesValue → ℕ → List ℕ
distances_from d x = map (between d x) (range_with_len 1 d.items)

-- the greatest number of a list, or 0
abbrev pub greatest : List ℕ → ℕ
greatest [] = 0
greatest (x ∷ xs) = max x (greatest xs)

-- the radii round x: the numbers that are a distance of x from some item, each once and in rising order
abbrev pub radii : DistancesValue → ℕ → List ℕ
radii d x = filter (has (distances_from d x)) (range_with_len 0 (greatest (distances_from d x) + 1))

-- the balls round x, in rising order of their radii
abbrev pub balls_round : DistancesValue → ℕ → List (List ℕ)
balls_round d x = map (ball d x) (radii d x)

-- the balls round the items 1 to x, centre after centre
abbrev pub balls_to : DistancesValue → ℕ → List (List ℕ)
balls_to d zero = []
balls_to d (suc x) = balls_to d x ++ balls_round d (suc x)

-- the matrix whose columns are the items and whose rows are the balls
abbrev pub balls_of : DistancesValue → RowList
balls_of d = record { columns = d.items; rows = balls_to d d.items }

-- an order of the items in which, of three of them, the outer two are at least as far apart as the middle one is from either
pub record IsRobinsonOrder (d : DistancesValue) (o : List ℕ) : Type 0 where
  pub order : IsOrder d.items o
  pub outer : (i j k : ℕ) → i < j → j < k → k < length o →
      (between d (slice_index o i) (slice_index o j) ≤ between d (slice_index o i) (slice_index o k)) ×
      (between d (slice_index o j) (slice_index o k) ≤ between d (slice_index o i) (slice_index o k))
