-- The text of a core read from the front of bytes. Each function gives what it reads and the bytes after it, and none where that does
-- not stand there.
use Rattle.std.specs.Prelude.{ℕ, ◌==◌, if◌then◌else◌, List, [], ◌∷◌, length, map, codes, Option, Some, None}
use Rattle.plain_text.specs.Numbers.{number_at}
use Rattle.plain_text.specs.Words.{word_at}
use Rattle.row_model.specs.declared.kind.Kind.{Kind}
use Rattle.row_model.specs.declared.graph.Line.{Line}
use Rattle.core_text.specs.Texts.{TextValue}
use Rattle.text_parts.specs.Grammar.{max_number}
use Rattle.text_parts.specs.Reading.{◌>>=◌, kind_at, column_count_at, numbers_at, counted_at, line_at}

-- a row and its order, which have no number
unfoldable pub entry_at : ℕ → List ℕ → Option ((ℕ × List ℕ) × List ℕ)
entry_at i bytes = do
  first ← word_at (codes "row ") bytes
  row ← number_at max_number first
  next ← word_at (codes "\nwithout") row.1
  order ← numbers_at (length next) next
  rest ← word_at (10 ∷ []) order.1
  if length order.0 == 0 then None else Some ((row.0, order.0), rest)

-- the first entry of a pair, and the second
abbrev pub entry_row : (ℕ × List ℕ) → ℕ
entry_row entry = entry.0

abbrev pub entry_order : (ℕ × List ℕ) → List ℕ
entry_order entry = entry.1

-- the value of a kind, a number of columns, rows with their orders, and lines
abbrev pub text_value : Kind → ℕ → List (ℕ × List ℕ) → List Line → TextValue
text_value kind columns entries lines = record { kind = kind; columns = columns; parts = record { rows = map entry_row entries; orders = map entry_order entries; lines = lines } }

-- the rows with their orders and the lines of a cycle, up to the end of the bytes, for a kind and a number of columns
unfoldable pub parts_of : Kind → ℕ → List ℕ → Option TextValue
parts_of kind columns bytes = do
  entries ← counted_at (codes "\ncore ") entry_at bytes
  lines ← counted_at (codes "cycle ") line_at entries.1
  rest ← word_at (codes "end\n") lines.1
  if length rest == 0 then Some (text_value kind columns entries.0 lines.0) else None

-- what all of the bytes are the text of
unfoldable pub core_of : List ℕ → Option TextValue
core_of bytes = do
  first ← word_at (codes "pq-core 1\nkind ") bytes
  kind ← kind_at first
  next ← word_at (codes "\ncolumns") kind.1
  columns ← column_count_at next
  parts_of kind.0 columns.0 columns.1
