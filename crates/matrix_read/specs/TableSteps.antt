-- How a table is read record by record.
use Rattle.std.specs.Prelude.{◌≡◌, ◌≤◌, ℕ, ◌+◌, ◌==◌, List, [], ◌++◌, map, length, if◌then◌else◌, None}
use Rattle.std.specs.List.{list_all}
use Rattle.row_model.specs.Rows.{RowList}
use Rattle.row_model.specs.declared.refusal.Read.{Read}
use Rattle.row_model.specs.declared.refusal.Read.TheVariants as read
use Rattle.row_model.specs.declared.TheConstants.{MAX_ROWS}
use Rattle.row_model.specs.declared.code.TheConstants.{CSV}
use Rattle.text_lines.specs.Rows.{refusal_or, refused_or}
use Rattle.matrix_read.specs.Cells.{cells, record_row}
use Rattle.matrix_read.specs.Table.{header_code, record_refusal}

-- the matrix without rows that a header begins, or the header's refusal
abbrev pub header_read : List (List ℕ) → Read RowList
header_read header = refused_or (refusal_or (header_code header) 1 None) (record { columns = length (cells header); rows = [] })

-- a matrix with one column less than so many fields, and with rows within the limit
abbrev pub FitsRecords : ℕ → Read RowList → Type 0
FitsRecords width (read.Refused refusal) = Unit {0}
FitsRecords width (read.Ok m) = (m.columns + 1 ≡ width) × (length m.rows ≤ MAX_ROWS)

-- a matrix with the rows of further records, or their first refusal; what is refused already stays so
abbrev pub with_records : Read RowList → List (List (List ℕ)) → Read RowList
with_records (read.Refused refusal) further = read.Refused refusal
with_records (read.Ok m) further = refused_or (record_refusal (length m.rows) further) (record { columns = m.columns; rows = m.rows ++ map record_row further })

-- the same, unless a record has another number of fields than the first one
abbrev pub with_even_records : ℕ → Read RowList → List (List (List ℕ)) → Read RowList
with_even_records width so_far further =
    if list_all (λ fields. length fields == width) further then with_records so_far further
    else read.Refused (record { code = CSV; line = 0 })
