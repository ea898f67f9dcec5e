-- A matrix as lines of the digits 0 and 1.
use Rattle.std.specs.Prelude.{ℕ, ◌-◌, ◌==◌, ◌||◌, not, List, [], ◌∷◌, map, length, slice_index_or, if◌then◌else◌, Bool, nat_lt, nat_le, Option, Some, None}
use Rattle.std.specs.List.{list_any, filter}
use Rattle.row_model.specs.Limits.{within_length}
use Rattle.row_model.specs.Rows.{RowList, columns_where}
use Rattle.row_model.specs.declared.refusal.Read.{Read}
use Rattle.row_model.specs.declared.refusal.Read.TheVariants as read
use Rattle.row_model.specs.declared.TheConstants.{MAX_COLUMNS, MAX_ROWS}
use Rattle.row_model.specs.declared.code.TheConstants.{EMPTY, GRAMMAR, COUNT, LIMIT}
use Rattle.text_lines.specs.Lines.{is_blank_byte, without_mark, lines_of, filled_lines, NumberedLine}
use Rattle.text_lines.specs.Rows.{first_refusal, refused_or}

-- 0 or 1
abbrev pub is_digit : ℕ → Bool
is_digit b = (b == 48) || (b == 49)

-- the digits of a line
abbrev pub digits_of : List ℕ → List ℕ
digits_of line = filter is_digit line

-- how many digits a line has
abbrev pub width_of : List ℕ → ℕ
width_of line = length (digits_of line)

-- the row of a line: the columns at which its digits are 1
abbrev pub digit_row : List ℕ → List ℕ
digit_row line = columns_where (width_of line) (λ column. slice_index_or (digits_of line) (column - 1) 0 == 49)

-- the code by which a line is refused as a row of this width, if it is, where so many rows stand before it. A line is
-- digits, spaces and tabs
abbrev pub digits_code : ℕ → ℕ → List ℕ → Option ℕ
digits_code width before line =
    if nat_le MAX_ROWS before then Some LIMIT
    else if list_any (λ b. not (is_digit b || is_blank_byte b)) line then Some GRAMMAR
    else if not (width_of line == width) then Some COUNT
    else if nat_lt MAX_COLUMNS width then Some LIMIT
    else None

-- the matrix of this width with the rows of lines
abbrev pub digit_matrix : ℕ → List NumberedLine → RowList
digit_matrix width lines = record { columns = width; rows = map (λ line. digit_row line.text) lines }

-- the matrix of lines that are not blank, or their first refusal; the first has the width of all
abbrev pub dense_lines : List NumberedLine → Read RowList
dense_lines [] = read.Refused (record { code = EMPTY; line = 0 })
dense_lines (first ∷ lines) =
    refused_or (first_refusal (digits_code (width_of first.text)) 0 (first ∷ lines)) (digit_matrix (width_of first.text) (first ∷ lines))

-- the matrix of the bytes of a file, or their first refusal
unfoldable pub dense : List ℕ → Read RowList
dense bytes = within_length bytes (dense_lines (filled_lines 1 (lines_of (without_mark bytes))))
