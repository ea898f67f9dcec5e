-- How orders lie one after another in one list.
use Rattle.std.specs.Prelude.{ℕ, List, length}
use Rattle.row_model.specs.Pieces.{pieces_from, AreBoundsFrom}
use Rattle.core_text.specs.declared.orders.Orders.TheInside.{Inside}

-- what contracts see of the fields
abbrev pub orders_within : Inside → List (List ℕ)
orders_within orders = pieces_from orders.columns.items 0 orders.ends.items

-- what is always true of the fields
abbrev pub AreOrderEnds : Inside → Type 0
AreOrderEnds orders = AreBoundsFrom (length orders.columns.items) 0 orders.ends.items
