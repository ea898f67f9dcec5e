-- The gaps of an order as the code keeps them.
use Rattle.std.specs.Prelude.{◌≡◌, ℕ, ◌≤◌, List, length, if◌then◌else◌, nat_lt}
use Rattle.column_order.specs.Orders.{IsOrder}
use Rattle.column_order.specs.declared.TheConstants.{COLUMN_BOUND}
use Rattle.row_model.specs.Positions.{ArePositions}
use Rattle.open_gaps.specs.declared.gap.Gap.{Gap}
use Rattle.open_gaps.specs.declared.table.OpenGaps.TheInside.{Inside}

-- a gap with one row more over it, which reaches from a position to another
abbrev pub covered : Gap → ℕ → ℕ → ℕ → Gap
covered g left right row =
    record {
      last = if nat_lt right g.last then right else g.last;
      last_row = if nat_lt right g.last then row else g.last_row;
      first = if nat_lt g.first left then left else g.first;
      first_row = if nat_lt g.first left then row else g.first_row;
    }

-- an order, and its gaps
pub record GapTable : Type 0 where
  pub order : List ℕ
  pub gaps : List Gap

-- what contracts see of the fields
abbrev pub table_within : Inside → GapTable
table_within t = record { order = t.order.items; gaps = t.gaps.items }

-- an order of columns, the position of each, and as many gaps as positions
pub record HasEachGap (t : Inside) : Type 0 where
  pub few : length t.order.items ≤ COLUMN_BOUND
  pub order : IsOrder (length t.order.items) t.order.items
  pub positions : ArePositions t.order.items t.positions.items
  pub gaps : length t.gaps.items ≡ length t.order.items
