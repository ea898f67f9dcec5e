-- Leaves of a row, at or below a node.
use Rattle.std.specs.Prelude.{◌≡◌, ℕ, ◌-◌, ◌≤◌, List, map, Some}
use Rattle.column_order.specs.Orders.{occurs}
use Rattle.arena_model.specs.declared.Shape.TheVariants.{Leaf}
use Rattle.arena_model.specs.Layout.{Layout, shape_at, IsAtOrAbove}

-- the leaves of the columns of a row: each has the number before its column
abbrev pub column_leaves : List ℕ → List ℕ
column_leaves row = map (λ a. a - 1) row

-- x is a leaf
abbrev pub IsLeafAt : Layout → ℕ → Type 0
IsLeafAt f x = (a : ℕ) × (shape_at f x ≡ Some (Leaf a))

-- each leaf of the row is n or below it
abbrev pub Holds : Layout → List ℕ → ℕ → Type 0
Holds f row n = (x : ℕ) → 1 ≤ occurs row x → IsAtOrAbove f.slots n x

-- some leaf of the row is n or below it
abbrev pub Meets : Layout → List ℕ → ℕ → Type 0
Meets f row n = (x : ℕ) × (1 ≤ occurs row x) × IsAtOrAbove f.slots n x
