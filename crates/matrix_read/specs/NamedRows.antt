-- What is read of a text whose first lines were read.
use Rattle.std.specs.Prelude.{ℕ, List, Option, Some, None}
use Rattle.row_model.specs.Rows.{RowList}
use Rattle.row_model.specs.declared.refusal.Read.{Read}
use Rattle.row_model.specs.declared.refusal.Read.TheVariants as read
use Rattle.text_lines.specs.Lines.{lines_of, unmarked_part}
use Rattle.text_lines.specs.Rows.{numbered_lines}
use Rattle.matrix_read.specs.SparseSteps.{sparse_lines}
use Rattle.matrix_read.specs.RowsThen.{rows_then}
use Rattle.matrix_read.specs.declared.named_rows.NamedRows.{NamedRows}
use Rattle.matrix_read.specs.declared.rows_reader.RowsReader.{RowsReader}

-- rows that were read, and behind them those of lines, or the first refusal
abbrev pub named_then : NamedRows → List (List ℕ) → Read RowList
named_then rows lines = rows_then rows.passed rows.matrix lines

-- the same, but for a refusal that came before
abbrev pub read_then : Read NamedRows → List (List ℕ) → Read RowList
read_then (read.Ok rows) lines = named_then rows lines
read_then (read.Refused refusal) lines = read.Refused refusal

-- the same, where no line may have been read yet
abbrev pub begun_then : Option (Read NamedRows) → List (List ℕ) → Read RowList
begun_then (Some rows) lines = read_then rows lines
begun_then None lines = sparse_lines (numbered_lines 1 lines)

-- the matrix of a text of which these bytes are left, or its first refusal
abbrev pub rows_with : RowsReader → List ℕ → Read RowList
rows_with reader text = begun_then reader.rows (lines_of (unmarked_part reader.is_begun text))
