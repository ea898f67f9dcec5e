-- Rows as they are written in lines that name their columns.
use Rattle.std.specs.Prelude.{◌≡◌, ℕ, ◌≤◌, List, [], ◌∷◌, ◌++◌, length}
use Rattle.std.specs.Fmt.{decimal}
use Rattle.column_order.specs.Orders.{has}
use Rattle.column_order.specs.declared.TheConstants.{COLUMN_BOUND}
use Rattle.row_model.specs.Rows.{IsRow}
use Rattle.row_model.specs.declared.refusal.Read.TheVariants as read
use Rattle.row_model.specs.declared.TheConstants.{MAX_COLUMNS, MAX_ROWS, MAX_FILE_BYTES}
use Rattle.matrix_read.specs.Sparse.{sparse, further}

-- columns in decimal, a space before each
abbrev pub spaced : List ℕ → List ℕ
spaced [] = []
spaced (column ∷ columns) = 32 ∷ (decimal column ++ spaced columns)

-- columns in decimal, a space between two
abbrev pub named_line : List ℕ → List ℕ
named_line [] = []
named_line (column ∷ columns) = decimal column ++ spaced columns

-- a line for each list of columns
abbrev pub named_text : List (List ℕ) → List ℕ
named_text [] = []
named_text (columns ∷ lists) = named_line columns ++ 10 ∷ named_text lists

-- the list has the columns of the row over 1 to c, in any order, and each as often as may be
pub record Names (c : ℕ) (columns row : List ℕ) : Type 0 where
  pub is_row : IsRow c row
  pub same : (a : ℕ) → has columns a ≡ has row a

-- each list has the columns of the row at its place
abbrev pub NameAll : ℕ → List (List ℕ) → List (List ℕ) → Type 0
NameAll c [] [] = Unit {0}
NameAll c [] (row ∷ rows) = ⊥
NameAll c (columns ∷ lists) [] = ⊥
NameAll c (columns ∷ lists) (row ∷ rows) = Names c columns row × NameAll c lists rows

-- the text of lines that name the columns of rows is read as these rows, within the limits
abbrev pub FurtherLaw : Type 0
FurtherLaw =
    (c : ℕ) (lists rows : List (List ℕ)) →
    c ≤ COLUMN_BOUND →
    NameAll c lists rows →
    length rows ≤ MAX_ROWS →
    length (named_text lists) ≤ MAX_FILE_BYTES →
    further c (named_text lists) ≡ read.Ok (record { columns = c; rows = rows })

-- behind a line with the number of columns it is read as the matrix of these rows
abbrev pub SparseLaw : Type 0
SparseLaw =
    (c : ℕ) (lists rows : List (List ℕ)) →
    1 ≤ c →
    c ≤ MAX_COLUMNS →
    NameAll c lists rows →
    length rows ≤ MAX_ROWS →
    length (decimal c ++ 10 ∷ named_text lists) ≤ MAX_FILE_BYTES →
    sparse (decimal c ++ 10 ∷ named_text lists) ≡ read.Ok (record { columns = c; rows = rows })
