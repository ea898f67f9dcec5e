-- The least column that can come next.
use Rattle.std.specs.Prelude.{ℕ, ◌<◌, ◌≤◌, min, nat_le, if◌then◌else◌, List, Option, Some, None}
use Rattle.pq_tree.specs.Outline.{Outline}
use Rattle.order_list.specs.Reading.{CanBegin, tree_at}
use Rattle.order_list.specs.declared.search.Next.{Next}

-- the least column of a set that is not below a bound, if there is one
abbrev pub IsLeastFrom : (ℕ → Type 0) → ℕ → Option ℕ → Type 0
IsLeastFrom P from None = (y : ℕ) → P y → y < from
IsLeastFrom P from (Some x) = P x × (from ≤ x) × ((y : ℕ) → P y → from ≤ y → x ≤ y)

-- one of the first n trees can begin with the column
abbrev pub OneBegins : List Outline → ℕ → ℕ → Type 0
OneBegins ts n y = (k : ℕ) × (k < n) × CanBegin (tree_at ts k) y

-- the least column, not below a bound, with which one of the first n trees can begin, and the place of that tree
abbrev pub IsNextAmong : List Outline → ℕ → ℕ → Option Next → Type 0
IsNextAmong ts n from None = (y : ℕ) → OneBegins ts n y → y < from
IsNextAmong ts n from (Some next) =
    (next.place < n) × CanBegin (tree_at ts next.place) next.column × (from ≤ next.column)
    × ((y : ℕ) → OneBegins ts n y → from ≤ y → next.column ≤ y)

-- the lower of two columns, where there are two
abbrev pub lower_of : Option ℕ → Option ℕ → Option ℕ
lower_of None b = b
lower_of (Some x) None = Some x
lower_of (Some x) (Some y) = Some (min x y)

-- the next column so far, or a lower one at the place
abbrev pub nearer_of : Option Next → ℕ → Option ℕ → Option Next
nearer_of next place None = next
nearer_of None place (Some x) = Some (record { place = place; column = x })
nearer_of (Some next) place (Some x) = (if nat_le next.column x then Some next else Some (record { place = place; column = x }))
