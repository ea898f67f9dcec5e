-- What a search for a core finds.
use Rattle.std.specs.Prelude.{⊤, ℕ, ◌+◌, ◌*◌, ◌≤◌, length}
use Rattle.column_order.specs.Orders.{HasValidOrder}
use Rattle.row_model.specs.Rows.{RowList}
use Rattle.odd_cycle.specs.Short.{IsShort}
use Rattle.row_judge.specs.Costs.{Costs}
use Rattle.row_judge.specs.Judges.{IsTreeOfOrders}
use Rattle.row_core.specs.declared.find.Cored.{Cored}
use Rattle.row_core.specs.declared.find.Cored.TheVariants as cored
use Rattle.core_text.specs.Told.{TellsCore}

-- the tree of all valid orders, where there is one, and else a core with a short cycle
abbrev pub IsCored : RowList → Cored → Type 0
IsCored m (cored.Has t) = IsTreeOfOrders m t × HasValidOrder m.columns m.rows
IsCored m (cored.Core core) = TellsCore m core × (HasValidOrder m.columns m.rows → ⊥) × IsShort m.columns core.lines

-- the most judgements of a judge that goes through the rows in turn: one where there is an order, and else one and two for each row of
-- the core
abbrev pub judgements_of : Cored → ℕ
judgements_of (cored.Has t) = 1
judgements_of (cored.Core core) = 2 * length core.rows + 1

-- a tree comes within the steps of a yes on the matrix, while the count goes from s to n
abbrev pub IsCoredWithin : Costs → RowList → ℕ → ℕ → Cored → Type 0
IsCoredWithin costs m s n (cored.Has t) = n ≤ s + costs.yes m
IsCoredWithin costs m s n (cored.Core core) = ⊤
