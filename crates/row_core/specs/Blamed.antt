-- How a set of rows narrows to those that a cycle names.
use Rattle.std.specs.Prelude.{◌≡◌, ℕ, ◌+◌, ◌-◌, ◌<◌, ◌≤◌, Bool, true, false, List, [], ◌∷◌, ◌++◌, length, take, drop, slice_index, slice_index_or, slice_set, if◌then◌else◌, IsTrue, All}
use Rattle.column_order.specs.Orders.{HasValidOrder}
use Rattle.std.specs.List.{AllByRecursion}
use Rattle.row_model.specs.declared.graph.Line.{Line}
use Rattle.row_model.specs.declared.graph.Why.{Why}
use Rattle.row_model.specs.declared.graph.Why.TheVariants.{Flip, Row}
use Rattle.row_model.specs.Cycles.{IsOddCycle}
use Rattle.row_model.specs.Rows.{RowList}
use Rattle.odd_cycle.specs.Short.{IsShort}
use Rattle.row_judge.specs.Judges.{IsTreeOfOrders}
use Rattle.core_text.specs.Cores.{AreRowNumbers, rows_at, but}
use Rattle.core_text.specs.Told.{AreAmong, IsOrderWithout}
use Rattle.row_core.specs.declared.blamed.Blamed.{Blamed}
use Rattle.row_core.specs.declared.narrow.Narrowed.{Narrowed}
use Rattle.row_core.specs.declared.part.Finding.{Finding}
use Rattle.row_core.specs.declared.part.Finding.TheVariants as finding
use Rattle.row_core.specs.declared.others.Tried.{Tried}
use Rattle.row_core.specs.declared.others.Tried.TheVariants as tried

-- each number is one of 1 to n
abbrev pub AreEachWithin : ℕ → List ℕ → Type 0
AreEachWithin n list = All (λ k. (1 ≤ k) × (k ≤ n)) list

-- the part of a matrix in these rows, which are numbered by their places
abbrev pub part_at : RowList → List ℕ → RowList
part_at m set = record { columns = m.columns; rows = rows_at m.rows set }

-- the reason in the whole matrix of a reason in the part
abbrev pub whole_why : List ℕ → Why → Why
whole_why set Flip = Flip
whole_why set (Row i) = Row (slice_index set (i - 1))

-- the line in the whole matrix of a line in the part
abbrev pub whole_line : List ℕ → Line → Line
whole_line set line = record { pair = line.pair; why = whole_why set line.why }

-- the reason is a flip or a row of 1 to n
abbrev pub IsReasonWithin : ℕ → Why → Type 0
IsReasonWithin n Flip = Unit {0}
IsReasonWithin n (Row i) = (1 ≤ i) × (i ≤ n)

-- so is that of each line
abbrev pub AreReasonsWithin : ℕ → List Line → Type 0
AreReasonsWithin n lines = AllByRecursion (λ (line : Line). IsReasonWithin n line.why) lines

-- the reason is a flip or a row that is marked
abbrev pub IsMarked : List Bool → Why → Type 0
IsMarked marks Flip = Unit {0}
IsMarked marks (Row i) = IsTrue (slice_index_or marks (i - 1) false)

-- so is that of each line
abbrev pub AreMarked : List Bool → List Line → Type 0
AreMarked marks lines = AllByRecursion (λ (line : Line). IsMarked marks line.why) lines

-- the marks with that of a reason
abbrev pub with_mark : List Bool → Why → List Bool
with_mark marks Flip = marks
with_mark marks (Row i) = slice_set marks (i - 1) true

-- the numbers at whose places, from i on, there is a mark
abbrev pub marked_from : List Bool → ℕ → List ℕ → List ℕ
marked_from marks i [] = []
marked_from marks i (k ∷ set) = if slice_index_or marks i false then k ∷ marked_from marks (i + 1) set else marked_from marks (i + 1) set

-- the numbers from place n on, and then those before it
abbrev pub rotated : ℕ → List ℕ → List ℕ
rotated n list = drop n list ++ take n list

-- rows of a matrix, and a short odd cycle that has no other rows as reasons; so they have no valid order together
pub record IsBlamed (m : RowList) (blamed : Blamed) : Type 0 where
  pub rows : AreRowNumbers (length m.rows) blamed.rows.items
  pub few : blamed.untried ≤ length blamed.rows.items
  pub cycle : IsOddCycle m.columns m.rows blamed.lines
  pub short : IsShort m.columns blamed.lines
  pub among : AreAmong blamed.rows.items blamed.lines

-- each of the rows from some place on is needed: without it the others have a valid order
abbrev pub AreNeeded : RowList → List ℕ → ℕ → Type 0
AreNeeded m set from = (i : ℕ) → from ≤ i → i < length set → HasValidOrder m.columns (rows_at m.rows (but (slice_index set i) set))

-- The tree of all valid orders of the rows of the set; or those of them that are to blame, as many at least as are needed, and with one
-- more that is not untried, where any is untried.
abbrev pub IsFinding : RowList → List ℕ → ℕ → Finding → Type 0
IsFinding m set needed (finding.Ordered t) = IsTreeOfOrders (part_at m set) t
IsFinding m set needed (finding.Refused blamed) =
    IsBlamed m blamed ×
    (HasValidOrder m.columns (rows_at m.rows set) → ⊥) ×
    (length blamed.rows.items ≤ length set) ×
    (needed ≤ length blamed.rows.items) ×
    (blamed.untried ≡ length blamed.rows.items - needed - 1)

-- of those that are to blame the rows that are not untried are needed
abbrev pub IsNeededFinding : RowList → Finding → Type 0
IsNeededFinding m (finding.Ordered t) = Unit {0}
IsNeededFinding m (finding.Refused blamed) = AreNeeded m blamed.rows.items blamed.untried

-- So many orders are told: the last is valid for the rows but that at a place, the one before it for those but the next, and so on.
pub record AreTold (m : RowList) (set : List ℕ) (from told : ℕ) (orders : List (List ℕ)) : Type 0 where
  pub count : length orders ≡ told
  pub inside : from + told ≤ length set
  pub each : (i : ℕ) → i < told → IsOrderWithout m set (slice_index set (from + i)) (slice_index_or orders (told - 1 - i) [])

-- rows of a matrix, a short odd cycle that has no other rows as reasons, and orders without the first rows
pub record IsNarrowed (m : RowList) (found : Narrowed) : Type 0 where
  pub rows : AreRowNumbers (length m.rows) found.rows.items
  pub cycle : IsOddCycle m.columns m.rows found.lines
  pub short : IsShort m.columns found.lines
  pub among : AreAmong found.rows.items found.lines
  pub orders : AreTold m found.rows.items 0 found.told found.orders

-- an order without each row of the set; or fewer rows that are to blame, and not each row of the set is needed
abbrev pub IsTried : RowList → List ℕ → Tried → Type 0
IsTried m set (tried.Orders orders) = (length orders ≡ length set) × ((i : ℕ) → i < length set → IsOrderWithout m set (slice_index set i) (slice_index_or orders i []))
IsTried m set (tried.Fewer blamed) = IsBlamed m blamed × (length blamed.rows.items < length set) × (AreNeeded m set 0 → ⊥)
