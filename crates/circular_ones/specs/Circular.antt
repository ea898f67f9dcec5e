-- Circular orders (Tucker, 1971): the columns stand round a circle, and so do the columns of each row, or else those outside it, without a gap.
use Rattle.std.specs.Prelude.{◌≡◌, ◌⊎◌, ℕ, not, if◌then◌else◌, List, [], ◌∷◌, ◌++◌, map, All}
use Rattle.column_order.specs.Orders.{has, IsOrder, Keeps}
use Rattle.row_model.specs.Rows.{RowList, columns_where}

-- the columns of 1 to c that the row lacks, in ascending order
abbrev pub complement : ℕ → List ℕ → List ℕ
complement c row = columns_where c (λ column. not (has row column))

-- an order in which, for each row, the columns of the row or the columns outside it are consecutive
pub record IsCircularOrder (c : ℕ) (rows : List (List ℕ)) (o : List ℕ) : Type 0 where
  pub order : IsOrder c o
  pub together : All (λ row. Keeps o row ⊎ Keeps o (complement c row)) rows

-- some order is circular
abbrev pub HasCircularOrder : ℕ → List (List ℕ) → Type 0
HasCircularOrder c rows = (o : List ℕ) × IsCircularOrder c rows o

-- a row that holds column 1 is replaced by its complement, and any other stays
abbrev pub cut_row : ℕ → List ℕ → List ℕ
cut_row c row = if has row 1 then complement c row else row

-- the rows cut at column 1
abbrev pub cut_rows : ℕ → List (List ℕ) → List (List ℕ)
cut_rows c rows = map (cut_row c) rows

-- the matrix of the cut rows
abbrev pub cut : RowList → RowList
cut m = record { columns = m.columns; rows = cut_rows m.columns m.rows }

-- the list is the other turned round: a front part has moved behind the rest
pub record IsRotation (o turned : List ℕ) : Type 0 where
  pub front : List ℕ
  pub back : List ℕ
  pub before : o ≡ front ++ back
  pub after : turned ≡ back ++ front

-- the first column, where there is one, is column 1
abbrev pub BeginsWithOne : List ℕ → Type 0
BeginsWithOne [] = Unit {0}
BeginsWithOne (column ∷ rest) = column ≡ 1

-- the rotation that begins with column 1
pub record IsTurned (o turned : List ℕ) : Type 0 where
  pub rotation : IsRotation o turned
  pub begins : BeginsWithOne turned
