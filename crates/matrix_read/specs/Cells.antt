-- The cells of a table, and the rows that they mark.
use Rattle.std.specs.Prelude.{ℕ, ◌-◌, ◌==◌, ◌||◌, ◌&&◌, not, List, [], ◌∷◌, map, length, drop, slice_index_or, codes, if◌then◌else◌, Bool}
use Rattle.std.specs.Char.{is_ascii_digit}
use Rattle.std.specs.List.{list_all}
use Rattle.std.specs.Str.{bytes_eq}
use Rattle.row_model.specs.Rows.{columns_where}
use Rattle.text_lines.specs.Lines.{is_blank}
use Rattle.text_lines.specs.Words.{blank_len}

-- the bytes up to the last that is no space or tab
abbrev pub without_last_blanks : List ℕ → List ℕ
without_last_blanks [] = []
without_last_blanks (b ∷ bytes) = if is_blank (b ∷ bytes) then [] else b ∷ without_last_blanks bytes

-- a field without the spaces and tabs at both ends
abbrev pub trimmed : List ℕ → List ℕ
trimmed field = without_last_blanks (drop (blank_len field) field)

-- the fields of a record from the second on, each without the spaces and tabs at both ends: one for each column
abbrev pub cells : List (List ℕ) → List (List ℕ)
cells fields = map trimmed (drop 1 fields)

-- a cell without a byte
abbrev pub is_empty : List ℕ → Bool
is_empty cell = length cell == 0

-- no byte but 0: the row lacks the column
abbrev pub is_absent : List ℕ → Bool
is_absent cell = list_all (λ b. b == 48) cell

-- x or X
abbrev pub is_cross : List ℕ → Bool
is_cross cell = bytes_eq cell (codes "x") || bytes_eq cell (codes "X")

-- a cross, or digits that are not all 0: the row has the column
abbrev pub is_present : List ℕ → Bool
is_present cell = is_cross cell || (list_all is_ascii_digit cell && not (is_absent cell))

-- a cell that says neither
abbrev pub is_foreign_cell : List ℕ → Bool
is_foreign_cell cell = not (is_present cell || is_absent cell)

-- the row of a record: the columns whose cells say that the row has them
abbrev pub record_row : List (List ℕ) → List ℕ
record_row fields = columns_where (length (cells fields)) (λ column. is_present (slice_index_or (cells fields) (column - 1) []))
