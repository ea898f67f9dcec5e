-- What lines of digits give that are read one after another, when further lines come behind them.
use Rattle.std.specs.Prelude.{◌≡◌, ℕ, ◌+◌, ◌<◌, ◌≤◌, true, false, List, ◌++◌, [], length, take, drop, Some, None, Result, Ok, Err}
use Rattle.row_model.specs.Rows.{RowList}
use Rattle.row_model.specs.declared.TheConstants.{MAX_COLUMNS}
use Rattle.row_model.specs.declared.refusal.Refusal.{Refusal}
use Rattle.row_model.specs.declared.refusal.Read.{Read}
use Rattle.row_model.specs.declared.refusal.Read.TheVariants as read
use Rattle.text_lines.specs.Lines.{is_blank, lines_of, filled_lines}
use Rattle.matrix_read.specs.Dense.{digit_row}
use Rattle.matrix_read.specs.DenseSteps.{row_code, read_lines}
use Rattle.matrix_read.specs.RowsThen.{answer_after}
use Rattle.matrix_read.specs.declared.dense.Front.{Front}
use Rattle.matrix_read.specs.declared.dense.Front.TheVariants as front
use Rattle.matrix_read.specs.declared.dense.DigitLine.{DigitLine}
use Rattle.matrix_read.specs.declared.dense.DigitLine.TheVariants as digits

-- a matrix and behind its rows those that lines write, or the first refusal, where so many lines stand before these
abbrev pub digits_then : ℕ → RowList → List (List ℕ) → Read RowList
digits_then passed m lines = answer_after (row_code m.columns) digit_row m.columns m.rows (filled_lines (passed + 1) lines)

-- the same, where the number of lines before them was counted, but for a refusal that came before
abbrev pub pushed_then : Result ℕ Refusal → RowList → List (List ℕ) → Read RowList
pushed_then (Ok passed) m lines = digits_then passed m lines
pushed_then (Err refusal) m lines = read.Refused refusal

-- what a text gives whose front was read, with further lines behind it
abbrev pub front_then : List ℕ → Front → List (List ℕ) → Read RowList
front_then text (front.NoRow passed) lines = read_lines (filled_lines (passed + 1) lines)
front_then text (front.Row first) lines = digits_then first.passed (record { columns = first.width; rows = [] }) (lines_of (drop first.start text) ++ lines)

-- a front is within its text and counts no more lines than there may be in it, and the width of a row is within its limits
abbrev pub IsFrontWithin : ℕ → List ℕ → Front → Type 0
IsFrontWithin passed text (front.NoRow after) = after ≤ passed + length text
IsFrontWithin passed text (front.Row first) = (1 ≤ first.width) × (first.width ≤ MAX_COLUMNS) × (first.start < length text) × (first.passed ≤ passed + first.start)

-- a line is blank, a row of this width whose columns stand at the front of a list, or refused, where so many rows stand
-- before it
abbrev pub IsDigitLine : ℕ → ℕ → List ℕ → List ℕ → DigitLine → Type 0
IsDigitLine width before line columns digits.NoRow = is_blank line ≡ true
IsDigitLine width before line columns (digits.Row ones) = (is_blank line ≡ false) × (row_code width before line ≡ None) × (take ones columns ≡ digit_row line) × (ones ≤ length columns)
IsDigitLine width before line columns (digits.Refused code) = (is_blank line ≡ false) × (row_code width before line ≡ Some code)
