-- A matrix as a table of comma-separated values: a record with the names of the columns, and then a record for each
-- row.
use Rattle.std.specs.Prelude.{ℕ, ◌+◌, ◌==◌, ◌||◌, not, List, [], ◌∷◌, map, length, if◌then◌else◌, nat_lt, nat_le, Option, Some, None}
use Rattle.std.specs.List.{list_any, list_all, filter}
use Rattle.csv.specs.Reading.{default_config, strip_bom, records}
use Rattle.row_model.specs.Limits.{within_length}
use Rattle.row_model.specs.Rows.{RowList}
use Rattle.row_model.specs.declared.refusal.Refusal.{Refusal}
use Rattle.row_model.specs.declared.refusal.Read.{Read}
use Rattle.row_model.specs.declared.refusal.Read.TheVariants as read
use Rattle.row_model.specs.declared.TheConstants.{MAX_COLUMNS, MAX_ROWS}
use Rattle.row_model.specs.declared.code.TheConstants.{EMPTY, GRAMMAR, TWICE, LIMIT, CSV}
use Rattle.text_lines.specs.Rows.{refusal_or, refused_or}
use Rattle.matrix_read.specs.Names.{has_twice}
use Rattle.matrix_read.specs.Cells.{cells, is_absent, is_present, record_row}

-- the names in a header: blank cells are none
abbrev pub names_of : List (List ℕ) → List (List ℕ)
names_of header = filter (λ name. not (length name == 0)) (cells header)

-- the code by which a header is refused, if it is
abbrev pub header_code : List (List ℕ) → Option ℕ
header_code header =
    if nat_lt (length header) 2 then Some EMPTY
    else if nat_lt (MAX_COLUMNS + 1) (length header) then Some LIMIT
    else if has_twice (names_of header) then Some TWICE
    else None

-- the code by which a record is refused as a row, if it is, where so many rows stand before it
abbrev pub record_code : ℕ → List (List ℕ) → Option ℕ
record_code before fields =
    if nat_le MAX_ROWS before then Some LIMIT
    else if list_any (λ cell. not (is_present cell || is_absent cell)) (cells fields) then Some GRAMMAR
    else None

-- the first refusal among records, if there is one, where so many rows stand before them; the header is record 1
unfoldable pub record_refusal : ℕ → List (List (List ℕ)) → Option Refusal
record_refusal before [] = None
record_refusal before (fields ∷ rest) = refusal_or (record_code before fields) (before + 2) (record_refusal (before + 1) rest)

-- the matrix with a column for each cell of the header, and the row of each further record
abbrev pub table_matrix : List (List ℕ) → List (List (List ℕ)) → RowList
table_matrix header further = record { columns = length (cells header); rows = map record_row further }

-- the matrix of records, or their first refusal; a record with another number of fields than the first is refused
-- before all
abbrev pub read_records : List (List (List ℕ)) → Read RowList
read_records [] = read.Refused (record { code = EMPTY; line = 0 })
read_records (header ∷ further) =
    if list_all (λ fields. length fields == length header) further
    then refused_or (refusal_or (header_code header) 1 (record_refusal 0 further)) (table_matrix header further)
    else read.Refused (record { code = CSV; line = 0 })

-- the matrix of the bytes of a file, or their first refusal; the records are those that csv reads
unfoldable pub table : List ℕ → Read RowList
table bytes = within_length bytes (read_records (records default_config (strip_bom bytes)))
