-- A table of distances as contracts see it.
use Rattle.std.specs.Prelude.{◌≡◌, ℕ, ◌+◌, ◌-◌, ◌*◌, ◌≤◌, List, length, slice_index_or}
use Rattle.graph_model.specs.declared.TheConstants.{ITEM_BOUND}

-- the number of items, and the distances row by row, each row from left to right
pub record DistancesValue : Type 0 where
  pub items : ℕ
  pub values : List ℕ

-- the distance of x and y, which count from 1, in a table of n items
abbrev pub distance : ℕ → List ℕ → ℕ → ℕ → ℕ
distance n values x y = slice_index_or values ((x - 1) * n + (y - 1)) 0

-- the distance of x and y is that of y and x
abbrev pub IsSymmetric : ℕ → List ℕ → Type 0
IsSymmetric n values = (x y : ℕ) → 1 ≤ x → x ≤ n → 1 ≤ y → y ≤ n → distance n values x y ≡ distance n values y x

-- each item has the distance 0 to itself
abbrev pub HasZeroDiagonal : ℕ → List ℕ → Type 0
HasZeroDiagonal n values = (x : ℕ) → 1 ≤ x → x ≤ n → distance n values x x ≡ 0

-- a number of items within its range, and a whole table, symmetric with a zero diagonal
pub record IsDistances (d : DistancesValue) : Type 0 where
  pub items : (1 ≤ d.items) × (d.items ≤ ITEM_BOUND)
  pub whole : length d.values ≡ d.items * d.items
  pub symmetric : IsSymmetric d.items d.values
  pub zero_diagonal : HasZeroDiagonal d.items d.values
