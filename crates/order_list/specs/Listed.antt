-- A list of orders as contracts see it.
use Rattle.std.specs.Prelude.{ℕ, Bool, true, nat_lt, if◌then◌else◌, List, [], ◌∷◌, ◌++◌, length, take, drop}
use Rattle.std.proofs.Common.{zero, suc}

-- the number of columns of each order, the orders, and whether there are others
pub record OrderList : Type 0 where
  pub columns : ℕ
  pub orders : List (List ℕ)
  pub more : Bool

-- the first k pieces of n numbers each
abbrev pub cut : ℕ → ℕ → List ℕ → List (List ℕ)
cut zero n xs = []
cut (suc k) n xs = take n xs ∷ cut k n (drop n xs)

-- the list with one order more, or the news that there are others where it has so many orders
abbrev pub added : ℕ → List ℕ → OrderList → OrderList
added limit order list = (if nat_lt (length list.orders) limit then record list { orders = list.orders ++ order ∷ [] } else record list { more = true })
