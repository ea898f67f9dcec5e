-- The first orders are one list.
use Rattle.std.specs.Prelude.{◌≡◌, ℕ, List}
use Rattle.column_order.specs.Orders.{IsValidOrder}
use Rattle.order_list.specs.First.{AreFirst}

-- two lists of the first k valid orders of rows are equal
abbrev pub FirstOrdersLaw : Type 0
FirstOrdersLaw =
    (c : ℕ) (rows : List (List ℕ)) (k : ℕ) (orders others : List (List ℕ)) →
    AreFirst (IsValidOrder c rows) k orders →
    AreFirst (IsValidOrder c rows) k others →
    orders ≡ others
