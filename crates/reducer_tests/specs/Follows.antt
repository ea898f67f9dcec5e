-- Reducers that were given the rows of a matrix.
use Rattle.std.specs.Prelude.{◌≡◌, ℕ}
use Rattle.row_model.specs.Rows.{RowList}
use Rattle.pq_tree.specs.Outline.{Outline}
use Rattle.tree_theory.specs.Tied.{IsTied}

-- a reducer's columns are the matrix's, and its tree is tied to all rows of the matrix
pub record Follows (m : RowList) (width : ℕ) (outline : Outline) : Type 0 where
  pub columns : width ≡ m.columns
  pub tied : IsTied m.columns m.rows outline
