-- Cores: rows that have no valid order together, of which none can be left out.
use Rattle.std.specs.Prelude.{ℕ, ◌==◌, not, List, map, filter, IsTrue, length}
use Rattle.column_order.specs.Orders.{has, HasValidOrder}
use Rattle.row_model.specs.Graph.{row_at}
use Rattle.row_model.specs.Rows.{RowList, Ascends}

-- numbers of 1 to n in strictly ascending order
abbrev pub AreRowNumbers : ℕ → List ℕ → Type 0
AreRowNumbers n numbers = Ascends n 0 numbers

-- the rows of these numbers
abbrev pub rows_at : List (List ℕ) → List ℕ → List (List ℕ)
rows_at rows numbers = map (row_at rows) numbers

-- the numbers but k
abbrev pub but : ℕ → List ℕ → List ℕ
but k numbers = filter (λ j. not (j == k)) numbers

-- a core: numbers of rows, strictly ascending, that have no valid order together, while for each of them the others have one
pub record IsCore (m : RowList) (core : List ℕ) : Type 0 where
  pub rows : Ascends (length m.rows) 0 core
  pub none : HasValidOrder m.columns (rows_at m.rows core) → ⊥
  pub others : (k : ℕ) → IsTrue (has core k) → HasValidOrder m.columns (rows_at m.rows (but k core))
