-- Sessions: further rows are taken or refused one after another.
use Rattle.std.specs.Prelude.{ℕ, List, [], ◌∷◌, ◌++◌}
use Rattle.column_order.specs.Orders.{HasValidOrder}
use Rattle.row_model.specs.Rows.{RowList}
use Rattle.pq_tree.specs.Outline.{Outline}
use Rattle.tree_theory.specs.Tied.{IsTied}

-- the matrix of a session, and the tree of its reducer
pub record SessionValue : Type 0 where
  pub matrix : RowList
  pub tree : Outline

-- the rows have a valid order, and the tree is tied to all of them
pub record IsSession (s : SessionValue) : Type 0 where
  pub tied : IsTied s.matrix.columns s.matrix.rows s.tree
  pub order : HasValidOrder s.matrix.columns s.matrix.rows

-- the matrix with one more row
abbrev pub with_row : RowList → List ℕ → RowList
with_row m row = record m { rows = m.rows ++ row ∷ [] }
