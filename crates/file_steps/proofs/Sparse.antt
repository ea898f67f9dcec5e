-- The rows of a matrix whose lines name columns, and their ones, are together no more than there are bytes.
use Rattle.std.proofs.Common.{ℕ, ◌+◌, ◌≤◌, List, [], ◌∷◌, length, map, sum_by, arith}
use Rattle.std.proofs.lemmas.List.{length-map}
use Rattle.std.proofs.lemmas.List.Sums.{sum_by-cons}
use Rattle.row_model.specs.Rows.{RowList}
use Rattle.row_model.specs.declared.TheConstants.{MAX_COLUMNS}
use Rattle.text_lines.specs.FirstRefusal.{numbered_of}
use Rattle.text_lines.specs.Heads.{size_given}
use Rattle.text_lines.specs.Lines.{NumberedLine}
use Rattle.text_lines.specs.Rows.{first_refusal, columns_among}
use Rattle.text_lines.specs.Words.{words_of, number_after, numbers_in}
use Rattle.matrix_read.specs.Sparse.{line_code, named_matrix, named_rows, sparse}
use Rattle.command_input.specs.Instances.{IfRead}
use Rattle.column_order.proofs.Few.{filter_few}
use Rattle.file_steps.proofs.Found.{within_read, refused_read, head_read}
use Rattle.file_steps.proofs.Lines.{line_room, numbered_short, words_short}

-- no more rows and ones than so many
abbrev pub HasFewOnes : ℕ → RowList → Type 0
HasFewOnes n m = length m.rows + sum_by length m.rows ≤ n

-- the row of a line
abbrev named_row : ℕ → NumberedLine → List ℕ
named_row c line = columns_among c (map (number_after 0) (words_of line.text))

row_short : (c : ℕ) (line : NumberedLine) → length (named_row c line) + 1 ≤ line_room line
row_short c line =
    omega (arith, filter_few (map (number_after 0) (words_of line.text)) c 1, length-map (words_of line.text) (number_after 0), words_short line.text)

rows_short : (c : ℕ) (lines : List NumberedLine) → length (map (named_row c) lines) + sum_by length (map (named_row c) lines) ≤ sum_by line_room lines
rows_short c [] = omega arith
rows_short c (line ∷ lines) =
    omega (arith, sum_by-cons length (named_row c line) (map (named_row c) lines), sum_by-cons line_room line lines, row_short c line, rows_short c lines)

named_few : (c n : ℕ) (lines : List NumberedLine) → sum_by line_room lines ≤ n → IfRead (named_rows c lines) (HasFewOnes n)
named_few c n lines room = refused_read (HasFewOnes n) (first_refusal (line_code c) 0 lines) (named_matrix c lines) (λ none. omega (arith, room, rows_short c lines))

pub sparse_few : (bytes : List ℕ) → IfRead (sparse bytes) (HasFewOnes (length bytes))
unfolding sparse
sparse_few bytes =
    within_read (HasFewOnes (length bytes)) bytes _
    (head_read (HasFewOnes (length bytes)) (λ line. size_given MAX_COLUMNS (numbers_in line)) named_rows (numbered_of bytes) (length bytes) (numbered_short bytes) (λ c lines. named_few c (length bytes) lines))
