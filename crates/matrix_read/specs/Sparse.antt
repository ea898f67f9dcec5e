-- A matrix as lines that name columns: a first line with the number of columns, and a line for each row.
use Rattle.std.specs.Prelude.{ℕ, ◌&&◌, List, [], ◌∷◌, map, if◌then◌else◌, nat_le, Option, Some, None}
use Rattle.row_model.specs.Limits.{within_length}
use Rattle.row_model.specs.Rows.{RowList}
use Rattle.row_model.specs.declared.refusal.Read.{Read}
use Rattle.row_model.specs.declared.TheConstants.{MAX_COLUMNS, MAX_ROWS}
use Rattle.row_model.specs.declared.code.TheConstants.{GRAMMAR, RANGE, LIMIT}
use Rattle.text_lines.specs.Lines.{without_mark, lines_of, NumberedLine}
use Rattle.text_lines.specs.Heads.{size_given, from_head}
use Rattle.text_lines.specs.Words.{words_of, number_after, number_of, numbers_in}
use Rattle.text_lines.specs.Rows.{code_or, numbered_lines, first_refusal, refused_or, columns_among}

-- the code by which a word that writes this number is refused as one of the columns 1 to c, if it is
abbrev pub column_code : ℕ → Option ℕ → Option ℕ
column_code c None = Some GRAMMAR
column_code c (Some n) = if nat_le 1 n && nat_le n c then None else Some RANGE

-- the code of the first word that is refused as a column, if there is one
unfoldable pub words_code : ℕ → List (List ℕ) → Option ℕ
words_code c [] = None
words_code c (word ∷ words) = code_or (column_code c (number_of word)) (words_code c words)

-- the code by which a line is refused as a row, if it is, where so many rows stand before it
abbrev pub line_code : ℕ → ℕ → List ℕ → Option ℕ
line_code c before line = if nat_le MAX_ROWS before then Some LIMIT else words_code c (words_of line)

-- the matrix over 1 to c with the row of each line: the set of the columns that the line names
abbrev pub named_matrix : ℕ → List NumberedLine → RowList
named_matrix c lines = record { columns = c; rows = map (λ line. columns_among c (map (number_after 0) (words_of line.text))) lines }

-- the matrix over 1 to c of lines each of which is a row, or their first refusal
abbrev pub named_rows : ℕ → List NumberedLine → Read RowList
named_rows c lines = refused_or (first_refusal (line_code c) 0 lines) (named_matrix c lines)

-- the matrix of the bytes of a file, or their first refusal
unfoldable pub sparse : List ℕ → Read RowList
sparse bytes = within_length bytes (from_head (λ line. size_given MAX_COLUMNS (numbers_in line)) named_rows (numbered_lines 1 (lines_of (without_mark bytes))))

-- the rows over 1 to c of the bytes of a file without a first line, or their first refusal
unfoldable pub further : ℕ → List ℕ → Read RowList
further c bytes = within_length bytes (named_rows c (numbered_lines 1 (lines_of (without_mark bytes))))
