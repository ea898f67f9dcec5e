-- The neighbourhoods of a bipartite graph as the rows of a matrix.
use Rattle.std.specs.Prelude.{ℕ, List, map}
use Rattle.std.specs.List.{range_with_len}
use Rattle.row_model.specs.Rows.{RowList, columns_where}
use Rattle.graph_model.specs.Graphs.{BigraphValue, has_edge}

-- a column for each y, and as row x the ys that x has an edge to
abbrev pub left_rows : BigraphValue → RowList
left_rows g = record { columns = g.right; rows = g.neighbours }

-- of the xs from 1 to n those with an edge to y, in ascending order
abbrev pub xs_among : List (List ℕ) → ℕ → ℕ → List ℕ
xs_among lists n y = columns_where n (λ x. has_edge lists x y)

-- a column for each x, and as row y the xs with an edge to y
abbrev pub right_rows : BigraphValue → RowList
right_rows g = record { columns = g.left; rows = map (xs_among g.neighbours g.left) (range_with_len 1 g.right) }
