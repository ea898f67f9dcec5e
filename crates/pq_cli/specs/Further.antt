-- The file of further rows.
use Rattle.std.specs.Prelude.{◌≡◌, ℕ, ◌≤◌, List, length}
use Rattle.row_model.specs.Rows.{RowList}
use Rattle.row_model.specs.declared.TheConstants.{MAX_ROWS}
use Rattle.row_model.specs.declared.refusal.Read.{Read}
use Rattle.matrix_read.specs.Sparse.{further}
use Rattle.command_input.specs.Instances.{IfRead}

-- further rows are over so many columns, and within the limit of rows
pub record AreFurther (c : ℕ) (m : RowList) : Type 0 where
  pub columns : m.columns ≡ c
  pub rows : length m.rows ≤ MAX_ROWS

-- the bytes of a file are read as these further rows, or refused so
abbrev pub ReadsFurther : ℕ → List ℕ → Read RowList → Type 0
ReadsFurther c bytes made = made ≡ further c bytes

-- whatever the bytes, further rows that are read are over the columns, and no more than there may be
abbrev pub HoldsFurther : ℕ → Read RowList → Type 0
HoldsFurther c made = IfRead made (AreFurther c)
