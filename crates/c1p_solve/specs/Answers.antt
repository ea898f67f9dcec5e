-- What the answer on a matrix says, and where it leaves the reducer.
use Rattle.std.specs.Prelude.{◌≡◌, ◌-◌, ◌≤◌, ◌↔◌, ℕ, Option, Some, None, List, length, take}
use Rattle.column_order.specs.Orders.{IsValidOrder, HasValidOrder}
use Rattle.row_model.specs.Rows.{RowList}
use Rattle.row_model.specs.declared.graph.Line.{Line}
use Rattle.row_model.specs.Cycles.{IsOddCycle}
use Rattle.pq_tree.specs.Outline.{Outline, IsFrontier}
use Rattle.pq_tree.specs.Canonical.{IsCanonical}
use Rattle.pq_tree.specs.PqTree.{column_count, outline}
use Rattle.pq_tree.specs.declared.PqTree.{PqTree}
use Rattle.tree_theory.specs.Tied.{IsTied}
use Rattle.row_judge.specs.Judges.{IsFirstConflict}
use Rattle.odd_cycle.specs.Short.{IsShort}
use Rattle.row_judge.specs.declared.Judged.{Judged}
use Rattle.row_judge.specs.declared.Judged.TheVariants.{Yes, No}

-- the tree is canonical and tied to all rows of the matrix, and its frontiers are exactly the valid orders
pub record HasAllOrders (m : RowList) (t : PqTree) : Type 0 where
  pub columns : column_count t ≡ m.columns
  pub canonical : IsCanonical (outline t)
  pub tied : IsTied m.columns m.rows (outline t)
  pub orders : (o : List ℕ) → IsFrontier (outline t) o ↔ IsValidOrder m.columns m.rows o

-- yes with the tree of all valid orders, or no with a short odd cycle, where there is no valid order
abbrev pub IsAnswer : RowList → Judged → Type 0
IsAnswer m (Yes t) = HasAllOrders m t × HasValidOrder m.columns m.rows
IsAnswer m (No cycle) = IsOddCycle m.columns m.rows cycle × (HasValidOrder m.columns m.rows → ⊥) × IsShort m.columns cycle

-- the tree is tied to the rows before the first row k for which the rows 1 to k have no valid order
pub record StandsBefore (m : RowList) (t : Outline) : Type 0 where
  pub k : ℕ
  pub from : 1 ≤ k
  pub to : k ≤ length m.rows
  pub tied : IsTied m.columns (take (k - 1) m.rows) t
  pub before : HasValidOrder m.columns (take (k - 1) m.rows)
  pub refused : HasValidOrder m.columns (take k m.rows) → ⊥

-- the tree is tied to all rows, which have a valid order, or a short odd cycle shows that they have none
abbrev pub IsReduction : RowList → Outline → Option (List Line) → Type 0
IsReduction m t None = IsTied m.columns m.rows t × HasValidOrder m.columns m.rows
IsReduction m t (Some cycle) = IsOddCycle m.columns m.rows cycle × (HasValidOrder m.columns m.rows → ⊥) × StandsBefore m t × IsShort m.columns cycle

-- where an answer leaves the reducer's tree
abbrev pub LeavesTree : RowList → Outline → Judged → Type 0
LeavesTree m t (Yes _) = IsTied m.columns m.rows t
LeavesTree m t (No _) = StandsBefore m t

-- the cycle of a no is one of the rows up to the first that leaves no valid order with those before it
abbrev pub IsInTurn : RowList → Judged → Type 0
IsInTurn m (Yes _) = Unit {0}
IsInTurn m (No cycle) = IsFirstConflict m cycle

-- so is the cycle after a row that is refused
abbrev pub IsReducedInTurn : RowList → Option (List Line) → Type 0
IsReducedInTurn m None = Unit {0}
IsReducedInTurn m (Some cycle) = IsFirstConflict m cycle
