-- Numbers that are given to ordered pairs of columns.
use Rattle.std.specs.Prelude.{◌≡◌, ◌≢◌, ℕ, ◌+◌, ◌-◌, ◌*◌, ◌<◌, ◌≤◌, Some, List, slice_get, slice_index}
use Rattle.column_order.specs.declared.TheConstants.{COLUMN_BOUND}
use Rattle.row_model.specs.declared.graph.Pair.{Pair}
use Rattle.row_model.specs.Graph.{IsPair}

-- the place of the entry in row i and column j of a table with so many columns, row by row; both count from 1
abbrev pub cell : ℕ → ℕ → ℕ → ℕ
cell width i j = (i - 1) * width + (j - 1)

-- the place of a pair
abbrev pub place_of : ℕ → Pair → ℕ
place_of columns v = cell columns v.a v.b

-- a number of columns, and the numbers of their pairs, each at its pair's place
pub record Numbering : Type 0 where
  pub columns : ℕ
  pub entries : List ℕ

-- the number of a pair
unfoldable pub number_of : Numbering → Pair → ℕ
number_of t v = slice_index t.entries (place_of t.columns v)

-- the pair has the new number, and each other pair keeps its number
pub record Renumbers (old new : Numbering) (v : Pair) (number : ℕ) : Type 0 where
  pub columns : new.columns ≡ old.columns
  pub changed : number_of new v ≡ number
  pub others : (w : Pair) → IsPair old.columns w → w ≢ v → number_of new w ≡ number_of old w

-- the number of the pair of each item is the item's position, from 1, and each pair with a number above 0 has its item there;
-- the columns are no more than a matrix may have
pub record IsIndexed {A : Type 0} (pair_of : A → Pair) (numbers : Numbering) (items : List A) : Type 0 where
  pub few : numbers.columns ≤ COLUMN_BOUND
  pub pairs : (i : ℕ) (x : A) → slice_get items i ≡ Some x → IsPair numbers.columns (pair_of x) × (number_of numbers (pair_of x) ≡ i + 1)
  pub found : (v : Pair) → IsPair numbers.columns v → 0 < number_of numbers v → (x : A) × (slice_get items (number_of numbers v - 1) ≡ Some x) × (pair_of x ≡ v)
