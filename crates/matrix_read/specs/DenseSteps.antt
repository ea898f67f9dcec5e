-- How lines of digits are read one after another: the first tells the width.
use Rattle.std.specs.Prelude.{ℕ, ◌==◌, ◌||◌, not, List, [], ◌∷◌, map, if◌then◌else◌, Bool, nat_lt, nat_le, Option, Some, None}
use Rattle.std.specs.List.{list_any}
use Rattle.row_model.specs.Rows.{RowList}
use Rattle.row_model.specs.declared.refusal.Read.{Read}
use Rattle.row_model.specs.declared.refusal.Read.TheVariants as read
use Rattle.row_model.specs.declared.TheConstants.{MAX_COLUMNS, MAX_ROWS}
use Rattle.row_model.specs.declared.code.TheConstants.{EMPTY, GRAMMAR, COUNT, LIMIT}
use Rattle.text_lines.specs.Lines.{is_blank_byte, NumberedLine}
use Rattle.text_lines.specs.Rows.{refusal_or, first_refusal, refused_or}
use Rattle.matrix_read.specs.Dense.{is_digit, width_of, digit_row, digit_matrix}

-- a byte that is no digit, space or tab
abbrev pub is_foreign_byte : ℕ → Bool
is_foreign_byte b = not (is_digit b || is_blank_byte b)

-- the code by which a line is refused as the first row, if it is
abbrev pub first_code : List ℕ → Option ℕ
first_code line =
    if list_any is_foreign_byte line then Some GRAMMAR
    else if nat_lt MAX_COLUMNS (width_of line) then Some LIMIT
    else None

-- the code by which a line is refused as a later row, if it is, where the first row has this width and so many rows
-- stand before the line
abbrev pub row_code : ℕ → ℕ → List ℕ → Option ℕ
row_code width before line =
    if nat_le MAX_ROWS before then Some LIMIT
    else if list_any is_foreign_byte line then Some GRAMMAR
    else if width_of line == width then None
    else Some COUNT

-- the rows of lines
abbrev pub digit_rows : List NumberedLine → List (List ℕ)
digit_rows lines = map (λ line. digit_row line.text) lines

-- the matrix of lines that are not blank, or their first refusal
abbrev pub read_lines : List NumberedLine → Read RowList
read_lines [] = read.Refused (record { code = EMPTY; line = 0 })
read_lines (first ∷ lines) =
    refused_or (refusal_or (first_code first.text) first.number (first_refusal (row_code (width_of first.text)) 1 lines))
    (digit_matrix (width_of first.text) (first ∷ lines))

-- the matrix of lines each of which is a row of this width, or their first refusal
abbrev pub rows_or_refusal : ℕ → List NumberedLine → Read RowList
rows_or_refusal width lines = refused_or (first_refusal (row_code width) 0 lines) (digit_matrix width lines)
