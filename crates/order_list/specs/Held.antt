-- How a list of orders keeps them: in one list of numbers.
use Rattle.std.specs.Prelude.{◌≡◌, ◌*◌, length}
use Rattle.order_list.specs.Listed.{OrderList, cut}
use Rattle.order_list.specs.declared.orders.Orders.TheInside.{Inside}

-- what contracts see of the fields
abbrev pub orders_within : Inside → OrderList
orders_within l = record { columns = l.columns; orders = cut l.count l.columns l.numbers.items; more = l.more }

-- what is always true of the fields
abbrev pub IsOrdersKept : Inside → Type 0
IsOrdersKept l = length l.numbers.items ≡ l.count * l.columns
