-- A reducer that takes rows one after another, and keeps none of them.
pub use Rattle.arena_model.specs.Layout.{Layout}
pub use Rattle.arena_model.specs.NamedTree.{outline_at}
use Rattle.std.specs.Prelude.{◌≡◌, ◌+◌, ◌-◌, ◌≤◌, ℕ, Option, Some, None, List, ◌++◌, length, take}
use Rattle.column_order.specs.Orders.{HasValidOrder}
use Rattle.row_model.specs.Graph.{HasConflict}
use Rattle.row_model.specs.Rows.{RowList}
use Rattle.tree_theory.specs.Tied.{IsTied}
use Rattle.c1p_solve.specs.Totals.{IsYesTotal, reduction_steps}

-- it has taken these rows over c columns in turn, while the count of steps went from s to n: its tree is tied to them
pub record HasTaken (c : ℕ) (rows : List (List ℕ)) (f : Layout) (s n : ℕ) : Type 0 where
  pub columns : f.columns ≡ c
  pub tied : IsTied c rows (outline_at f)
  pub total : IsYesTotal (record { columns = c; rows = rows }) (outline_at f) s n

-- It has taken the rows before row k of the matrix in turn, and row k was refused, while the count of steps went from s to n: its tree is
-- tied to the rows before row k, with which row k leaves no valid order.
pub record HasRefused (m : RowList) (k : ℕ) (f : Layout) (s n : ℕ) : Type 0 where
  pub from : 1 ≤ k
  pub to : k ≤ length m.rows
  pub columns : f.columns ≡ m.columns
  pub tied : IsTied m.columns (take (k - 1) m.rows) (outline_at f)
  pub before : HasValidOrder m.columns (take (k - 1) m.rows)
  pub refused : HasValidOrder m.columns (take k m.rows) → ⊥
  pub conflict : HasConflict m.columns (take k m.rows)
  pub total : n ≤ s + reduction_steps m.columns (take k m.rows)

-- After these rows it has taken all further ones in turn, or those before row k of them, and row k was refused.
abbrev pub TakesRows : ℕ → List (List ℕ) → List (List ℕ) → Layout → ℕ → ℕ → Option ℕ → Type 0
TakesRows c rows further f s n None = HasTaken c (rows ++ further) f s n
TakesRows c rows further f s n (Some k) = HasRefused (record { columns = c; rows = rows ++ further }) (length rows + k) f s n
