-- What it costs to tell whether a row joins two pairs.
use Rattle.std.specs.Prelude.{◌≡◌, ◌≢◌, ℕ, ◌≤◌, if◌then◌else◌, List, length}
use Rattle.column_order.specs.Orders.{has}
use Rattle.row_model.specs.declared.graph.Pair.{Pair}
use Rattle.row_model.specs.Graph.{IsPair}

-- v is (a,b) and w is (b,d), and a and d are distinct
abbrev pub LeadsOn : Pair → Pair → Type 0
LeadsOn v w = (v.b ≡ w.a) × (v.a ≢ w.b)

-- the first column of v is looked for in the row; where the row has that, the last of w; and where it has both, the column between
abbrev pub looks : List ℕ → Pair → Pair → ℕ
looks row v w = if has row v.a then (if has row w.b then 3 else 2) else 1

-- the pairs are pairs of distinct columns, the first leads on to the second, and there is a row k, from 1
pub record MayCross (c : ℕ) (rows : List (List ℕ)) (v w : Pair) (k : ℕ) : Type 0 where
  pub from : IsPair c v
  pub to : IsPair c w
  pub on : LeadsOn v w
  pub first : 1 ≤ k
  pub last : k ≤ length rows
