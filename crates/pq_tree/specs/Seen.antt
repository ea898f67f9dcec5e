-- A parser of the program as the reading speaks of it.
use Rattle.std.specs.Prelude.{◌≡◌, ℕ, ◌+◌, ◌<◌, ◌≤◌, Bool, true, false, map, reverse, length, slice_index_or, Option, Some, None}
use Rattle.column_order.specs.Orders.{has}
use Rattle.column_order.specs.declared.TheConstants.{COLUMN_BOUND}
use Rattle.pq_tree.specs.Proper.{outline_of}
use Rattle.pq_tree.specs.Reading.{State, Begun, used}
use Rattle.pq_tree.specs.declared.parse.Last.{Last}
use Rattle.pq_tree.specs.declared.parse.Last.TheVariants.{Nothing, Number, Child}
use Rattle.pq_tree.specs.declared.parse.OpenNode.{OpenNode}
use Rattle.pq_tree.specs.declared.parse.Parser.{Parser}

-- an open node of the program
unfoldable pub begun_of : OpenNode → Begun
begun_of node = record { round = node.round; before = map outline_of node.before.items }

-- the state that a parser holds
unfoldable pub seen : Parser → State
seen p = record { last = p.last; children = map outline_of p.children.items; open_nodes = reverse (map begun_of p.open_nodes.items) }

-- a number that may go on is at most c
abbrev pub IsLastWithin : ℕ → Last → Type 0
IsLastWithin c Nothing = Unit {0}
IsLastWithin c (Number n) = n ≤ c
IsLastWithin c Child = Unit {0}

-- the parser's marks are at the columns that are used, and it has no more open nodes than columns
pub record IsKept (p : Parser) : Type 0 where
  pub small : p.columns ≤ COLUMN_BOUND
  pub long : length p.marks.items ≡ p.columns + 1
  pub marked : (j : ℕ) → j < p.columns + 1 → slice_index_or p.marks.items j false ≡ has (used (seen p)) j
  pub within : IsLastWithin p.columns p.last
  pub few : length p.open_nodes.items ≤ p.columns

-- p became q, as a step of the reading says
pub record IsMoved (p q : Parser) (step : Option State) : Type 0 where
  pub kept : IsKept q
  pub columns : q.columns ≡ p.columns
  pub seen_is : step ≡ Some (seen q)

-- the parser moved where the answer is yes, and the reading stops there where it is no
abbrev pub Moves : Bool → Parser → Parser → Option State → Type 0
Moves true p q step = IsMoved p q step
Moves false p q step = step ≡ None
