-- Neighbours of an order that lie in one row, and the rows in which two columns lie together.
use Rattle.std.specs.Prelude.{◌≡◌, ℕ, ◌+◌, ◌-◌, ◌*◌, ◌^◌, ◌<◌, ◌≤◌, ◌&&◌, ◌==◌, Bool, nat_le, nat_lt, min, max, if◌then◌else◌, List, length, slice_index, drop, MatchOption}
use Rattle.std.proofs.Common.{zero, suc}
use Rattle.column_order.specs.Orders.{has}
use Rattle.row_model.specs.Positions.{position_of}
use Rattle.row_model.specs.Rows.{IsRow, RowList}
use Rattle.row_model.specs.declared.lists.Span.{Span}
use Rattle.others_kept.specs.Others.{numbered}
use Rattle.others_kept.specs.declared.table.Table.{Table}
use Rattle.others_kept.specs.declared.others.Others.{Others}

-- the sum of the values at the numbers below n
abbrev pub sum_below : ℕ → (ℕ → ℕ) → ℕ
sum_below zero f = 0
sum_below (suc n) f = f n + sum_below n f

-- 1 where the row has both columns, else 0
abbrev pub both : List ℕ → ℕ → ℕ → ℕ
both row x y = if has row x && has row y then 1 else 0

-- how many pairs of neighbours of the order the row has
abbrev pub joins : List ℕ → List ℕ → ℕ
joins o row = sum_below (length o - 1) (λ i. both row (slice_index o i) (slice_index o (suc i)))

-- how many of the numbered rows have both columns
abbrev pub rows_with : List (List ℕ) → List ℕ → ℕ → ℕ → ℕ
rows_with rows numbers x y = sum_below (length numbers) (λ j. both (numbered rows numbers j) x y)

-- how many pairs of neighbours of the order the numbered rows have together
abbrev pub joins_of_all : List (List ℕ) → List ℕ → List ℕ → ℕ
joins_of_all rows numbers o = sum_below (length o - 1) (λ i. rows_with rows numbers (slice_index o i) (slice_index o (suc i)))

-- how many pairs of neighbours an order has in the numbered rows, at most: in each row one fewer than it has columns
abbrev pub most_joins : List (List ℕ) → List ℕ → ℕ
most_joins rows numbers = sum_below (length numbers) (λ j. length (numbered rows numbers j) - 1)

-- whether the place, from 0, lies in the span
abbrev pub within_span : Span → ℕ → Bool
within_span span b = nat_lt b span.last && nat_le span.first (b + 1)

-- the span lies in the positions 1 to c; an empty one ends right before it begins
pub record LiesIn (c : ℕ) (span : Span) : Type 0 where
  pub from_1 : 1 ≤ span.first
  pub rise : span.first ≤ span.last + 1
  pub inside : span.last ≤ c

-- the order has the columns of the row at the places of the span
pub record IsSpanOf (c : ℕ) (o row : List ℕ) (span : Span) : Type 0 where
  pub lies : LiesIn c span
  pub fills : (b : ℕ) → b < length o → has row (slice_index o b) ≡ within_span span b

-- 1 where the span begins at the place a and has the place b
abbrev pub begins : ℕ → ℕ → Span → ℕ
begins a b span = if (span.first == a + 1) && within_span span b then 1 else 0

-- 1 where the span begins at the place a or before, and has the place b
abbrev pub reaches : ℕ → ℕ → Span → ℕ
reaches a b span = if nat_le span.first (a + 1) && within_span span b then 1 else 0

-- where the count of two columns stands: by the lower and the higher of their positions in a square
abbrev pub cell : ℕ → List ℕ → ℕ → ℕ → ℕ
cell c positions x y = (min (position_of positions x) (position_of positions y) - 1) * c + (max (position_of positions x) (position_of positions y) - 1)

-- For each two columns the table has the number of the numbered rows that have both, and it has the greatest number of pairs of neighbours
-- of an order in these rows.
pub record AreCounts (m : RowList) (numbers : List ℕ) (t : Table) : Type 0 where
  pub rows : (j : ℕ) → j < length numbers → IsRow m.columns (numbered m.rows numbers j)
  pub columns : length t.positions.items ≡ m.columns
  pub square : length t.counts.items ≡ m.columns * m.columns
  pub near : (x : ℕ) → 1 ≤ x → x ≤ m.columns → (1 ≤ position_of t.positions.items x) × (position_of t.positions.items x ≤ m.columns)
  pub counted : (x y : ℕ) → 1 ≤ x → x ≤ m.columns → 1 ≤ y → y ≤ m.columns → (x ≡ y → ⊥)
      → slice_index t.counts.items (cell m.columns t.positions.items x y) ≡ rows_with m.rows numbers x y
  pub wanted : t.wanted ≡ most_joins m.rows numbers
  pub few : t.wanted < 2 ^ 62

-- the table, if there is one, is that of the rows behind the first
abbrev pub AreOthers : RowList → List ℕ → Others → Type 0
AreOthers m numbers others = MatchOption others.table (Unit {0}) (AreCounts m (drop 1 numbers))
