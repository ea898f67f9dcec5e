-- What is told of a core.
use Rattle.std.specs.Prelude.{◌≡◌, ◌↔◌, ℕ, ◌<◌, List, [], length, slice_index, slice_index_or, IsTrue}
use Rattle.std.specs.List.{AllByRecursion}
use Rattle.column_order.specs.Orders.{has, IsValidOrder}
use Rattle.row_model.specs.declared.graph.Line.{Line}
use Rattle.row_model.specs.declared.graph.Why.{Why}
use Rattle.row_model.specs.declared.graph.Why.TheVariants.{Flip, Row}
use Rattle.row_model.specs.Cycles.{IsOddCycle}
use Rattle.row_model.specs.Rows.{RowList}
use Rattle.pq_tree.specs.Outline.{Outline, IsFrontier, leaves}
use Rattle.pq_tree.specs.Proper.{IsProper}
use Rattle.pq_tree.specs.Canonical.{IsCanonical}
use Rattle.core_text.specs.Parts.{CoreParts}
use Rattle.core_text.specs.Cores.{rows_at, but, IsCore}

-- the reason is a flip or one of the rows
abbrev pub IsAmong : List ℕ → Why → Type 0
IsAmong rows Flip = Unit {0}
IsAmong rows (Row k) = IsTrue (has rows k)

-- the reasons of the lines are flips or some of the rows
abbrev pub AreAmong : List ℕ → List Line → Type 0
AreAmong rows lines = AllByRecursion (λ (line : Line). IsAmong rows line.why) lines

-- The order is valid for the rows of the core but k: it has the leaves, from left to right, of the canonical tree whose
-- frontiers are exactly the valid orders of these rows.
pub record IsOrderWithout (m : RowList) (core : List ℕ) (k : ℕ) (o : List ℕ) : Type 0 where
  pub valid : IsValidOrder m.columns (rows_at m.rows (but k core)) o
  pub tree : Outline
  pub proper : IsProper m.columns tree
  pub canonical : IsCanonical tree
  pub orders : (p : List ℕ) → IsFrontier tree p ↔ IsValidOrder m.columns (rows_at m.rows (but k core)) p
  pub leaves : o ≡ leaves tree

-- The rows are a core of the matrix. Each has an order that is valid for the others, and an odd cycle has no other rows as
-- reasons.
pub record TellsCore (m : RowList) (parts : CoreParts) : Type 0 where
  pub core : IsCore m parts.rows
  pub count : length parts.orders ≡ length parts.rows
  pub orders : (i : ℕ) → i < length parts.rows → IsOrderWithout m parts.rows (slice_index parts.rows i) (slice_index_or parts.orders i [])
  pub cycle : IsOddCycle m.columns m.rows parts.lines
  pub among : AreAmong parts.rows parts.lines
