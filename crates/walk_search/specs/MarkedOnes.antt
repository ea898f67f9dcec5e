-- The ones of the rows that are marked.
use Rattle.std.specs.Prelude.{ℕ, zero, suc, ◌+◌, if◌then◌else◌, List, length}
use Rattle.row_model.specs.Graph.{row_at}
use Rattle.odd_cycle.specs.Marks.{Marking, is_marked}

-- the sum of f 1 to f n
abbrev pub sum_to : (ℕ → ℕ) → ℕ → ℕ
sum_to f zero = 0
sum_to f (suc n) = sum_to f n + f (suc n)

-- the ones of the row where it is marked at the column, and 0 where it is not
abbrev pub ones_at : List (List ℕ) → Marking → ℕ → ℕ → ℕ
ones_at rows t column row = if is_marked t row column then length (row_at rows row) else 0

-- the ones of all marked rows, those of a row once for each column at which it is marked
unfoldable pub marked_ones : List (List ℕ) → Marking → ℕ
marked_ones rows t = sum_to (λ column. sum_to (ones_at rows t column) t.rows) t.columns
