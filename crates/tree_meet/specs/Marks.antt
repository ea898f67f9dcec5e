-- Columns that are marked with the trees that have them, and a row that is parted by these marks.
use Rattle.std.specs.Prelude.{◌≡◌, ℕ, ◌+◌, ◌<◌, Bool, ◌==◌, ◌||◌, List, [], ◌∷◌, ◌++◌, map, filter, length, slice_index, slice_index_or, IsTrue, if◌then◌else◌}
use Rattle.std.specs.declared.vec.Vec.{Vec}
use Rattle.std.specs.declared.alloc.Global.{Global}
use Rattle.column_order.specs.Orders.{has}
use Rattle.pq_tree.specs.Outline.{Forest, no_tree, tree_and, leaves}

-- the mark of each column of the trees is the index of its tree, the first tree having this index
abbrev pub AreMarkedByTree : List ℕ → ℕ → Forest → Type 0
AreMarkedByTree marks first no_tree = Unit {0}
AreMarkedByTree marks first (tree_and t ts) =
    ((a : ℕ) → IsTrue (has (leaves t) a) → slice_index marks a ≡ first) × AreMarkedByTree marks (first + 1) ts

-- the lists in some vectors
abbrev pub lists_of : List (Vec ℕ Global) → List (List ℕ)
lists_of lists = map (λ list. list.items) lists

-- the list at an index
abbrev pub list_at : List (Vec ℕ Global) → ℕ → List ℕ
list_at lists i = slice_index_or (lists_of lists) i []

-- the mark is the index
abbrev pub is_at : ℕ → ℕ → Bool
is_at mark i = mark == i

-- the mark is the index or the next one
abbrev pub is_near : ℕ → ℕ → Bool
is_near mark i = (mark == i) || (mark == i + 1)

-- each of the lists at whose index the test passes has one column more
abbrev pub AddsWhere : (ℕ → Bool) → ℕ → List (Vec ℕ Global) → List (Vec ℕ Global) → Type 0
AddsWhere test column old new =
    (length new ≡ length old)
    × ((i : ℕ) → i < length old → list_at new i ≡ list_at old i ++ (if test i then column ∷ [] else []))

-- as many lists, each of the columns of the row with a mark that passes the test at its index
abbrev pub ArePartsBy : (ℕ → ℕ → Bool) → List ℕ → List ℕ → ℕ → List (Vec ℕ Global) → Type 0
ArePartsBy test marks row count lists =
    (length lists ≡ count)
    × ((i : ℕ) → i < count → list_at lists i ≡ filter (λ a. test (slice_index marks a) i) row)
