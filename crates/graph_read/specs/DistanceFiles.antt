-- The tables of distances that files write.
use Rattle.std.specs.Prelude.{ℕ, nat_le, List, length, take, if◌then◌else◌, Option, Some, None, Result}
use Rattle.std.specs.List.{concat}
use Rattle.row_model.specs.declared.refusal.Refusal.{Refusal}
use Rattle.row_model.specs.declared.refusal.Read.{Read}
use Rattle.row_model.specs.Limits.{within_length}
use Rattle.row_model.specs.declared.TheConstants.{MAX_ITEMS}
use Rattle.row_model.specs.declared.code.TheConstants.{COUNT}
use Rattle.text_lines.specs.Lines.{NumberedLine}
use Rattle.text_lines.specs.FirstRefusal.{filled_of}
use Rattle.text_lines.specs.Heads.{size_given, if_head, from_head}
use Rattle.text_lines.specs.Rows.{first_refusal, refused_or}
use Rattle.text_lines.specs.Words.{words_of, numbers_in}
use Rattle.text_lines.specs.declared.words.Numeral.{Numeral}
use Rattle.graph_model.specs.Distances.{DistancesValue}
use Rattle.graph_read.specs.DistanceRows.{rows_in, next_row_code}
use Rattle.graph_read.specs.Numbers.{size_named, one_number}

-- the number of items, or the code of its refusal
abbrev pub items_named : Option Numeral → Result ℕ ℕ
items_named = size_named MAX_ITEMS

-- the code by which one of these lines is refused as the next row of a table of n items, where so many of them stand
-- before it
abbrev pub row_line : ℕ → List NumberedLine → ℕ → List ℕ → Option ℕ
row_line n lines before line = next_row_code n (rows_in (take before lines)) line

-- the refusal of lines that are fewer than the rows of a table of n items
abbrev pub missing_rows : ℕ → List NumberedLine → Option Refusal
missing_rows n lines = if nat_le n (length lines) then None else Some (record { code = COUNT; line = 0 })

-- a refusal, or the next one
abbrev pub earlier_or : Option Refusal → Option Refusal → Option Refusal
earlier_or (Some refusal) next = Some refusal
earlier_or None next = next

-- the first refusal of lines as the rows of a table of n items, if there is one: of a line that is not the next row,
-- and last of rows that are missing
abbrev pub table_refusal : ℕ → List NumberedLine → Option Refusal
table_refusal n lines = earlier_or (first_refusal (row_line n lines) 0 lines) (missing_rows n lines)

-- the table of n items with the rows that lines write
abbrev pub table_written : ℕ → List NumberedLine → DistancesValue
table_written n lines = record { items = n; values = concat (rows_in lines) }

-- the table of n items whose rows are the lines, or their first refusal
abbrev pub distances_sized : ℕ → List NumberedLine → Read DistancesValue
distances_sized n lines = refused_or (table_refusal n lines) (table_written n lines)

-- the distances of the lines behind a first one, which has this number, or the first refusal
abbrev pub distances_behind : ℕ → Result ℕ ℕ → List NumberedLine → Read DistancesValue
distances_behind number found lines = if_head number found (λ n. distances_sized n lines)

-- the distances of lines that are not blank, or their first refusal
abbrev pub distances_lines : List NumberedLine → Read DistancesValue
distances_lines = from_head (λ line. items_named (one_number (words_of line))) distances_sized

-- the distances of the bytes of a file, or their first refusal
unfoldable pub distances : List ℕ → Read DistancesValue
distances bytes = within_length bytes (from_head (λ line. size_given MAX_ITEMS (numbers_in line)) distances_sized (filled_of bytes))
