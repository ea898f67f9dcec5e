-- The lists of edges of which a part was read and kept as places.
use Rattle.std.specs.Prelude.{◌≡◌, ℕ, zero, suc, ◌+◌, ◌-◌, ◌*◌, ◌||◌, List, [], ◌∷◌, None}
use Rattle.column_order.specs.Orders.{has}
use Rattle.row_model.specs.Rows.{RowList, columns_where}
use Rattle.row_model.specs.declared.refusal.Read.{Read}
use Rattle.row_model.specs.declared.refusal.Read.TheVariants as read
use Rattle.text_lines.specs.Lines.{NumberedLine, filled_lines}
use Rattle.text_lines.specs.Rows.{refused_or}
use Rattle.graph_read.specs.declared.edges.Edge.{Edge}
use Rattle.graph_read.specs.declared.edges.Shape.{Shape}
use Rattle.graph_read.specs.Edges.{left_of, right_of, ways, ends_from, edges_of, edge_refusal}
use Rattle.graph_read.specs.Places.{ArePlaces}

-- the places are those of the edges of some lines, none of which is refused
pub record Placed (shape : Shape) (places : List ℕ) : Type 0 where
  pub lines : List NumberedLine
  pub taken : edge_refusal shape lines ≡ None
  pub are : ArePlaces (left_of shape) (right_of shape) (ways shape (edges_of shape lines)) places

-- there are such lines
abbrev pub IsPlaced : Shape → List ℕ → Type 0
IsPlaced shape places = ∥ Placed shape places ∥₁

-- the lists of so many vertices from x on: of the vertices 1 to c those that edges from it go to, where edges at places
-- of a table stand before others
abbrev pub lists_beside : ℕ → ℕ → ℕ → List ℕ → List Edge → List (List ℕ)
lists_beside x zero c places edges = []
lists_beside x (suc n) c places edges = columns_where c (λ y. has places ((x - 1) * c + (y - 1)) || has (ends_from x edges) y) ∷ lists_beside (x + 1) n c places edges

-- the lists of the edges at places and behind them those of lines, or the first refusal of a line
abbrev pub lists_then : Shape → List ℕ → List NumberedLine → Read RowList
lists_then shape places lines =
    refused_or (edge_refusal shape lines) (record { columns = right_of shape; rows = lists_beside 1 (left_of shape) (right_of shape) places (ways shape (edges_of shape lines)) })

-- the same, where so many lines stand before these, but for a refusal that came before
abbrev pub counted_then : Shape → List ℕ → Read ℕ → List (List ℕ) → Read RowList
counted_then shape places (read.Ok passed) lines = lists_then shape places (filled_lines (passed + 1) lines)
counted_then shape places (read.Refused refusal) lines = read.Refused refusal
