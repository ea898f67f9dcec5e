-- How lines that name columns are read one after another: the first has the number of columns.
use Rattle.std.specs.Prelude.{ℕ, ◌==◌, List, [], ◌∷◌, map, if◌then◌else◌, nat_lt, Option, Some, None, Result, Ok, Err}
use Rattle.row_model.specs.Rows.{RowList}
use Rattle.row_model.specs.declared.refusal.Read.{Read}
use Rattle.row_model.specs.declared.TheConstants.{MAX_COLUMNS}
use Rattle.row_model.specs.declared.code.TheConstants.{GRAMMAR, RANGE, LIMIT}
use Rattle.text_lines.specs.Lines.{NumberedLine}
use Rattle.text_lines.specs.Words.{words_of, number_after, number_of}
use Rattle.text_lines.specs.Rows.{columns_among}
use Rattle.text_lines.specs.Heads.{if_head, from_head}
use Rattle.matrix_read.specs.Sparse.{named_rows}

-- the numbers that words write
abbrev pub columns_named : List (List ℕ) → List ℕ
columns_named words = map (number_after 0) words

-- the row of a line over 1 to c: the set of the columns that the line names
abbrev pub row_named : ℕ → List ℕ → List ℕ
row_named c line = columns_among c (columns_named (words_of line))

-- the word, where there is exactly one
abbrev pub only_word : List (List ℕ) → Option (List ℕ)
only_word (word ∷ []) = Some word
only_word words = None

-- the number of columns that a word with this number gives, or the code of its refusal
abbrev pub width_of_number : Option ℕ → Result ℕ ℕ
width_of_number None = Err GRAMMAR
width_of_number (Some n) = if n == 0 then Err RANGE else if nat_lt MAX_COLUMNS n then Err LIMIT else Ok n

-- the number of columns that the first line gives, or the code of its refusal: the line has exactly one word
abbrev pub width_given : Option (List ℕ) → Result ℕ ℕ
width_given None = Err GRAMMAR
width_given (Some word) = width_of_number (number_of word)

-- the rows of the lines behind a first one, which has this number, or the first refusal
abbrev pub rows_behind : ℕ → Result ℕ ℕ → List NumberedLine → Read RowList
rows_behind number width lines = if_head number width (λ c. named_rows c lines)

-- the matrix of lines, or their first refusal
abbrev pub sparse_lines : List NumberedLine → Read RowList
sparse_lines = from_head (λ line. width_given (only_word (words_of line))) named_rows
