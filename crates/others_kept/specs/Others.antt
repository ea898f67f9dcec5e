-- Numbered rows of a matrix, and orders that are valid for all of them but one.
use Rattle.std.specs.Prelude.{◌≡◌, ℕ, ◌<◌, List, length, slice_index}
use Rattle.column_order.specs.Orders.{IsOrder, Keeps}
use Rattle.row_model.specs.Graph.{row_at}
use Rattle.row_model.specs.Rows.{RowList}

-- the row whose number stands at an index
abbrev pub numbered : List (List ℕ) → List ℕ → ℕ → List ℕ
numbered rows numbers j = row_at rows (slice_index numbers j)

-- the order keeps each of the first rows, so many, but the one at an index
abbrev pub KeepsOthers : List (List ℕ) → List ℕ → ℕ → List ℕ → ℕ → Type 0
KeepsOthers rows numbers i o count = (j : ℕ) → j < count → (j ≡ i → ⊥) → Keeps o (numbered rows numbers j)

-- an order of the columns that keeps each of the numbered rows but the one at an index
pub record IsValidForOthers (m : RowList) (numbers : List ℕ) (i : ℕ) (o : List ℕ) : Type 0 where
  pub order : IsOrder m.columns o
  pub kept : KeepsOthers m.rows numbers i o (length numbers)
