-- What is read of lines of digits of which the first were read.
use Rattle.std.specs.Prelude.{ℕ, ◌+◌, List, length, Option, Some, None, if◌then◌else◌, nat_lt}
use Rattle.row_model.specs.Rows.{RowList}
use Rattle.row_model.specs.declared.TheConstants.{MAX_FILE_BYTES}
use Rattle.row_model.specs.declared.code.TheConstants.{LIMIT}
use Rattle.row_model.specs.declared.refusal.Read.{Read}
use Rattle.row_model.specs.declared.refusal.Read.TheVariants as read
use Rattle.text_lines.specs.Lines.{lines_of, filled_lines, unmarked_part}
use Rattle.matrix_read.specs.DenseSteps.{read_lines}
use Rattle.matrix_read.specs.DigitsThen.{digits_then}
use Rattle.matrix_read.specs.declared.digit_rows.DigitRows.{DigitRows}
use Rattle.matrix_read.specs.declared.dense_reader.DenseReader.{DenseReader}

-- rows that were read and behind them those of lines, before which so many stand, or the first refusal
abbrev pub read_digits_then : ℕ → Read DigitRows → List (List ℕ) → Read RowList
read_digits_then passed (read.Ok rows) lines = digits_then passed rows.matrix lines
read_digits_then passed (read.Refused refusal) lines = read.Refused refusal

-- what was read, and behind it what lines give, where so many lines stand before them and no row may have been read yet
abbrev pub lines_then : ℕ → Option (Read DigitRows) → List (List ℕ) → Read RowList
lines_then passed None lines = read_lines (filled_lines (passed + 1) lines)
lines_then passed (Some rows) lines = read_digits_then passed rows lines

-- the matrix of a text of which these bytes are left, or its first refusal
abbrev pub dense_with : DenseReader → List ℕ → Read RowList
dense_with reader text =
    if nat_lt MAX_FILE_BYTES (reader.taken + length text) then read.Refused (record { code = LIMIT; line = 0 })
    else lines_then reader.passed reader.rows (lines_of (unmarked_part reader.is_begun text))
