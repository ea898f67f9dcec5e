-- The row that a cycle blames.
use Rattle.std.specs.Prelude.{◌≡◌, ℕ, ◌+◌, List, [], ◌∷◌, ◌++◌, length}
use Rattle.std.specs.List.{Contains}
use Rattle.column_order.specs.Orders.{HasValidOrder}
use Rattle.row_model.specs.Rows.{RowList}
use Rattle.row_model.specs.declared.graph.Line.{Line}
use Rattle.row_model.specs.declared.graph.Why.TheVariants.{Row}
use Rattle.row_model.specs.Cycles.{IsOddCycle}
use Rattle.row_judge.specs.Judges.{IsFirstConflict}

-- row k is the reason of one of the lines
abbrev pub IsReason : ℕ → List Line → Type 0
IsReason k lines = (line : Line) × Contains lines line × (line.why ≡ Row k)

-- where rows have a valid order, and an odd cycle shows that they have none with one row more, that row is a reason of it
abbrev pub LastRowLaw : Type 0
LastRowLaw =
    (c : ℕ) (rows : List (List ℕ)) (row : List ℕ) (lines : List Line) →
    HasValidOrder c rows →
    IsOddCycle c (rows ++ row ∷ []) lines →
    IsReason (length rows + 1) lines

-- of an odd cycle of the rows up to the first that leaves no valid order with those before it, that row is a reason
abbrev pub FirstConflictLaw : Type 0
FirstConflictLaw = (m : RowList) (lines : List Line) (first : IsFirstConflict m lines) → IsReason (first.before + 1) lines
