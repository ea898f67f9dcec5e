-- What a judge's answer says of a matrix.
use Rattle.std.specs.Prelude.{◌≡◌, ◌↔◌, ⊤, ℕ, ◌+◌, List, take}
use Rattle.column_order.specs.Orders.{IsValidOrder, HasValidOrder}
use Rattle.row_model.specs.Rows.{RowList}
use Rattle.row_model.specs.declared.graph.Line.{Line}
use Rattle.row_model.specs.Cycles.{IsOddCycle}
use Rattle.pq_tree.specs.Outline.{IsFrontier}
use Rattle.pq_tree.specs.Canonical.{IsCanonical}
use Rattle.pq_tree.specs.PqTree.{column_count, outline}
use Rattle.pq_tree.specs.declared.PqTree.{PqTree}
use Rattle.odd_cycle.specs.Short.{IsShort}
use Rattle.row_judge.specs.declared.Judged.{Judged}
use Rattle.row_judge.specs.declared.Judged.TheVariants.{Yes, No}

-- the tree is canonical, and its frontiers are exactly the valid orders of the matrix
pub record IsTreeOfOrders (m : RowList) (t : PqTree) : Type 0 where
  pub columns : column_count t ≡ m.columns
  pub canonical : IsCanonical (outline t)
  pub orders : (o : List ℕ) → IsFrontier (outline t) o ↔ IsValidOrder m.columns m.rows o

-- yes with the tree of all valid orders, of which there is one, or no with an odd cycle, where there is no valid order
abbrev pub IsJudged : RowList → Judged → Type 0
IsJudged m (Yes t) = IsTreeOfOrders m t × HasValidOrder m.columns m.rows
IsJudged m (No cycle) = IsOddCycle m.columns m.rows cycle × (HasValidOrder m.columns m.rows → ⊥)

-- an odd cycle of the rows up to the first that leaves no valid order with those before it
pub record IsFirstConflict (m : RowList) (lines : List Line) : Type 0 where
  pub before : ℕ
  pub order : HasValidOrder m.columns (take before m.rows)
  pub cycle : IsOddCycle m.columns (take (before + 1) m.rows) lines

-- a cycle that is told is such a one
abbrev pub IsJudgedInTurn : RowList → Judged → Type 0
IsJudgedInTurn m (Yes t) = Unit {0}
IsJudgedInTurn m (No cycle) = IsFirstConflict m cycle

-- the odd cycle of a no has at most one flip, and at most half as many lines as there are ordered pairs, and one
abbrev pub HasShortCycle : ℕ → Judged → Type 0
HasShortCycle c (Yes t) = ⊤
HasShortCycle c (No cycle) = IsShort c cycle
