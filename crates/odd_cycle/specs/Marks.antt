-- Marks of rows at columns.
use Rattle.std.specs.Prelude.{◌≡◌, ◌≢◌, ◌⊎◌, ℕ, ◌/◌, ◌%◌, ◌≤◌, ◌==◌, Bool, true, List, slice_index}
use Rattle.std.specs.Int.{bit_at}
use Rattle.odd_cycle.specs.Numbers.{cell}

-- so many rows and columns, and words with a bit for each row at each column, at its place
pub record Marking : Type 0 where
  pub rows : ℕ
  pub columns : ℕ
  pub words : List ℕ

-- the place of a row at a column: column by column
abbrev pub mark_place : ℕ → ℕ → ℕ → ℕ
mark_place rows row column = cell rows column row

-- whether the row is marked at the column
unfoldable pub is_marked : Marking → ℕ → ℕ → Bool
is_marked t row column =
    bit_at (slice_index t.words (mark_place t.rows row column / 64)) (mark_place t.rows row column % 64) == 1

-- the row is marked at the column, every mark stays, and nothing else is marked
pub record IsMarkedAt (old new : Marking) (row column : ℕ) : Type 0 where
  pub rows : new.rows ≡ old.rows
  pub columns : new.columns ≡ old.columns
  pub here : is_marked new row column ≡ true
  pub stay : (k p : ℕ) → is_marked old k p ≡ true → is_marked new k p ≡ true
  pub others : (k p : ℕ) → 1 ≤ k → k ≤ old.rows → 1 ≤ p → (k ≢ row) ⊎ (p ≢ column) → is_marked new k p ≡ is_marked old k p
