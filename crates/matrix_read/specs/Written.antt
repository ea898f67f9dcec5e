-- A matrix as it is written in lines of digits.
use Rattle.std.specs.Prelude.{◌≡◌, ℕ, zero, suc, ◌+◌, ◌≤◌, List, [], ◌∷◌, ◌++◌, length, if◌then◌else◌, All}
use Rattle.column_order.specs.Orders.{has}
use Rattle.row_model.specs.Rows.{IsRow}
use Rattle.row_model.specs.declared.refusal.Read.TheVariants as read
use Rattle.row_model.specs.declared.TheConstants.{MAX_COLUMNS, MAX_ROWS, MAX_FILE_BYTES}
use Rattle.matrix_read.specs.Dense.{dense}

-- so many digits of a row from a column on: each is 1 where the row has the column, and else 0
abbrev pub digits_from : ℕ → ℕ → List ℕ → List ℕ
digits_from column zero row = []
digits_from column (suc n) row = (if has row column then 49 else 48) ∷ digits_from (column + 1) n row

-- the text of rows over the columns 1 to c: each row is a line of c digits
abbrev pub digits_text : ℕ → List (List ℕ) → List ℕ
digits_text c [] = []
digits_text c (row ∷ rows) = digits_from 1 c row ++ 10 ∷ digits_text c rows

-- the text of a matrix within the limits is read as that matrix
abbrev pub DenseLaw : Type 0
DenseLaw =
    (c : ℕ) (rows : List (List ℕ)) →
    1 ≤ c →
    c ≤ MAX_COLUMNS →
    1 ≤ length rows →
    length rows ≤ MAX_ROWS →
    All (IsRow c) rows →
    length (digits_text c rows) ≤ MAX_FILE_BYTES →
    dense (digits_text c rows) ≡ read.Ok (record { columns = c; rows = rows })
