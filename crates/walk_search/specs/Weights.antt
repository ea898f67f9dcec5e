-- What the nodes of a search weigh: the rows that have their first columns, which pay for the steps that they cost.
use Rattle.std.specs.Prelude.{◌≡◌, ◌⊎◌, ℕ, ◌+◌, ◌-◌, ◌*◌, ◌≤◌, if◌then◌else◌, Bool, IsTrue, Some, List, length, map, take, sum_by, slice_get}
use Rattle.column_order.specs.Orders.{has}
use Rattle.row_model.specs.Rows.{RowList}
use Rattle.row_model.specs.declared.graph.Pair.{Pair}
use Rattle.open_gaps.specs.Gaps.{IsAtOpenGap}
use Rattle.open_gaps.specs.Tables.{GapTable}
use Rattle.walk_search.specs.declared.forest.Node.{Node}
use Rattle.walk_search.specs.declared.neighbours.Neighbours.{Neighbours}
use Rattle.walk_search.specs.Holders.{holders_of}
use Rattle.walk_search.specs.MarkedOnes.{sum_to}

-- how many of the rows have the column
unfoldable pub rows_with : List (List ℕ) → ℕ → ℕ
rows_with rows a = sum_by (λ row. if has row a then 1 else 0) rows

-- how many further rows are held for the column
abbrev pub held_for : Neighbours → ℕ → ℕ
held_for near a = length (holders_of (map (λ list. list.items) near.holders.items) a)

-- the first rows that have the column, and the further ones that are held for it
abbrev pub weight : RowList → Neighbours → ℕ → ℕ
weight m near a = rows_with (take near.first m.rows) a + held_for near a

-- the weights of the first columns of the nodes
abbrev pub weights : RowList → Neighbours → List Node → ℕ
weights m near nodes = sum_by (λ node. weight m near node.pair.a) nodes

-- the most that nodes can weigh together: each column is the first one of fewer pairs than there are columns
abbrev pub most_weight : RowList → Neighbours → ℕ
most_weight m near = (m.columns - 1) * sum_to (weight m near) m.columns

-- some row of the search has each of the two columns
abbrev pub AreWeighty : RowList → Neighbours → Pair → Type 0
AreWeighty m near v = (1 ≤ weight m near v.a) × (1 ≤ weight m near v.b)

-- a further row is held for the column, or it stands beside a gap that the first rows leave open
abbrev pub IsJoining : RowList → Neighbours → ℕ → Type 0
IsJoining m near a = (1 ≤ held_for near a) ⊎ ((t : GapTable) × (near.gaps ≡ Some t) × IsAtOpenGap (take near.first m.rows) t.order a)

-- the answer is yes where this is so, and only where some row of the search has the column
pub record TellsJoining (m : RowList) (near : Neighbours) (a : ℕ) (answer : Bool) : Type 0 where
  pub held : IsTrue answer → 1 ≤ weight m near a
  pub whole : IsJoining m near a → IsTrue answer

-- the node's first column has a weight
abbrev pub IsWeighty : RowList → Neighbours → List Node → ℕ → Type 0
IsWeighty m near nodes i = (node : Node) → slice_get nodes i ≡ Some node → AreWeighty m near node.pair
