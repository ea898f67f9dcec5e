-- What rows give that are read line by line, when further lines come behind them.
use Rattle.std.specs.Prelude.{ℕ, ◌+◌, List, ◌++◌, map, length, Option, Some, None}
use Rattle.row_model.specs.Rows.{RowList}
use Rattle.row_model.specs.declared.refusal.Refusal.{Refusal}
use Rattle.row_model.specs.declared.refusal.Read.{Read}
use Rattle.row_model.specs.declared.refusal.Read.TheVariants as read
use Rattle.text_lines.specs.Lines.{NumberedLine}
use Rattle.text_lines.specs.Rows.{first_refusal, refused_or, numbered_lines}
use Rattle.matrix_read.specs.Sparse.{line_code}
use Rattle.matrix_read.specs.SparseSteps.{row_named}

-- the matrix of c columns with these rows and behind them those of lines, or the first refusal of a line, by the code that
-- it has behind so many rows
abbrev pub answer_after : (ℕ → List ℕ → Option ℕ) → (List ℕ → List ℕ) → ℕ → List (List ℕ) → List NumberedLine → Read RowList
answer_after code_of row_from c rows lines =
    refused_or (first_refusal code_of (length rows) lines) (record { columns = c; rows = rows ++ map (λ line. row_from line.text) lines })

-- a matrix and behind its rows those that lines name, or the first refusal, where so many lines stand before the first row
abbrev pub rows_then : ℕ → RowList → List (List ℕ) → Read RowList
rows_then passed m lines =
    answer_after (line_code m.columns) (row_named m.columns) m.columns m.rows (numbered_lines (passed + length m.rows + 1) lines)

-- the same, but for a refusal that came before
abbrev pub refused_or_then : Option Refusal → ℕ → RowList → List (List ℕ) → Read RowList
refused_or_then (Some refusal) passed m lines = read.Refused refusal
refused_or_then None passed m lines = rows_then passed m lines
