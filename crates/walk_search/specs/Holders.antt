-- The rows that have each column.
use Rattle.std.specs.Prelude.{◌≡◌, ℕ, ◌-◌, ◌≤◌, Some, List, [], length, drop, slice_get, slice_index_or, sum_by, take, IsTrue}
use Rattle.row_model.specs.Graph.{row_at}
use Rattle.row_model.specs.Rows.{RowList}
use Rattle.column_order.specs.Orders.{has}

-- the matrix without its first rows
abbrev pub without : ℕ → RowList → RowList
without first m = record { columns = m.columns; rows = drop first m.rows }

-- the list of a column, from 1
abbrev pub holders_of : List (List ℕ) → ℕ → List ℕ
holders_of lists column = slice_index_or lists (column - 1) []

-- for each column a list, in which those of the first rows stand that have it, and which all together are no longer than the
-- rows have ones
pub record AreHolders (m : RowList) (rows : ℕ) (lists : List (List ℕ)) : Type 0 where
  pub columns : length lists ≡ m.columns
  pub sound : (column i row : ℕ) → 1 ≤ column → slice_get (holders_of lists column) i ≡ Some row → (1 ≤ row) × (row ≤ rows) × IsTrue (has (row_at m.rows row) column)
  pub whole : (column row : ℕ) → 1 ≤ column → column ≤ m.columns → 1 ≤ row → row ≤ rows → IsTrue (has (row_at m.rows row) column) →
      (i : ℕ) × (slice_get (holders_of lists column) i ≡ Some row)
  pub once : sum_by length lists ≤ sum_by length (take rows m.rows)
