-- The limits that a matrix which is read keeps.
use Rattle.std.specs.Prelude.{◌≡◌, ◌≤◌, ℕ, List, length}
use Rattle.row_model.specs.Rows.{RowList}
use Rattle.row_model.specs.declared.refusal.Read.{Read}
use Rattle.row_model.specs.declared.refusal.Read.TheVariants as read
use Rattle.row_model.specs.declared.TheConstants.{MAX_COLUMNS, MAX_ROWS}
use Rattle.matrix_read.specs.Clones.{clones}
use Rattle.matrix_read.specs.Dense.{dense}
use Rattle.matrix_read.specs.Sparse.{sparse, further}
use Rattle.matrix_read.specs.Table.{table}

-- a matrix has a column, and no more columns and rows than there may be
pub record IsWithinLimits (m : RowList) : Type 0 where
  pub some : 1 ≤ m.columns
  pub columns : m.columns ≤ MAX_COLUMNS
  pub rows : length m.rows ≤ MAX_ROWS

-- each matrix that this reading gives is within the limits
abbrev pub GivesWithin : (List ℕ → Read RowList) → Type 0
GivesWithin reading = (bytes : List ℕ) (m : RowList) → reading bytes ≡ read.Ok m → IsWithinLimits m

-- so is each matrix that is read of any form of file that holds a whole matrix; further rows are over the columns that
-- they were asked for, and no more than there may be
pub record LimitsLaw : Type 0 where
  pub dense : GivesWithin dense
  pub rows : GivesWithin sparse
  pub table : GivesWithin table
  pub clones : GivesWithin clones
  pub further : (c : ℕ) (bytes : List ℕ) (m : RowList) → further c bytes ≡ read.Ok m → (m.columns ≡ c) × (length m.rows ≤ MAX_ROWS)
