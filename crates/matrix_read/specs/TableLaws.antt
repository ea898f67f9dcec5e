-- What is said of tables apart from how they are read.
use Rattle.std.specs.Prelude.{◌≡◌, ◌≢◌, ◌↔◌, ◌<◌, ◌≤◌, ℕ, zero, suc, ◌+◌, ◌==◌, Bool, List, [], ◌∷◌, ◌++◌, map, length, codes, if◌then◌else◌, slice_index_or, IsTrue, IsFalse, Option, Some, None, All, AllPairs}
use Rattle.csv.specs.Reading.{default_config, strip_bom, records}
use Rattle.std.specs.List.{list_any, list_all}
use Rattle.csv.specs.Writing.{default_writer, row_text}
use Rattle.column_order.specs.Orders.{has}
use Rattle.row_model.specs.Rows.{IsRow}
use Rattle.row_model.specs.declared.code.TheConstants.{EMPTY, GRAMMAR, TWICE, LIMIT, CSV}
use Rattle.text_lines.specs.FirstRefusal.{RefusesLong}
use Rattle.row_model.specs.declared.refusal.Refusal.{Refusal}
use Rattle.row_model.specs.declared.refusal.Read.TheVariants as read
use Rattle.row_model.specs.declared.TheConstants.{MAX_COLUMNS, MAX_ROWS, MAX_FILE_BYTES}
use Rattle.text_lines.specs.Lines.{is_blank, is_blank_byte}
use Rattle.matrix_read.specs.Cells.{trimmed, cells, is_present, is_foreign_cell, record_row}
use Rattle.matrix_read.specs.Table.{names_of, header_code, record_code, record_refusal, table_matrix, table}
use Rattle.matrix_read.specs.Names.{has_twice}

-- a row with a label, which is no part of the matrix
pub record LabelledRow : Type 0 where
  pub label : List ℕ
  pub row : List ℕ

-- so many cells of a row from a column on: each has an `x` where the row has the column, and else nothing
abbrev pub crosses_from : ℕ → ℕ → List ℕ → List (List ℕ)
crosses_from column zero row = []
crosses_from column (suc n) row = (if has row column then codes "x" else []) ∷ crosses_from (column + 1) n row

-- the records of labelled rows over columns with these names, under a header
abbrev pub records_with : List ℕ → List (List ℕ) → List LabelledRow → List (List (List ℕ))
records_with corner names rows = (corner ∷ names) ∷ map (λ labelled. labelled.label ∷ crosses_from 1 (length names) labelled.row) rows

-- the text that csv writes for records
abbrev pub table_text : List (List (List ℕ)) → List ℕ
table_text [] = []
table_text (fields ∷ further) = row_text default_writer fields ++ table_text further

-- no two names are the same
abbrev pub Differ : List (List ℕ) → Type 0
Differ names = AllPairs (λ earlier later. earlier ≢ later) names

-- the table that is written of a matrix within the limits, with different names and any labels, is read as that matrix
abbrev pub TableLaw : Type 0
TableLaw =
    (corner : List ℕ) (names : List (List ℕ)) (rows : List LabelledRow) →
    1 ≤ length names →
    length names ≤ MAX_COLUMNS →
    Differ (names_of (corner ∷ names)) →
    length rows ≤ MAX_ROWS →
    All (λ labelled. IsRow (length names) labelled.row) rows →
    length (table_text (records_with corner names rows)) ≤ MAX_FILE_BYTES →
    strip_bom (table_text (records_with corner names rows)) ≡ table_text (records_with corner names rows) →
    table (table_text (records_with corner names rows)) ≡ read.Ok (record { columns = length names; rows = map (λ labelled. labelled.row) rows })

-- a row has exactly the columns from 1 on whose fields, apart from blanks at both ends, say so; the first field is of
-- none
abbrev pub RowLaw : Type 0
RowLaw =
    (fields : List (List ℕ)) (column : ℕ) →
    IsTrue (has (record_row fields) column) ↔ ((1 ≤ column) × (column < length fields) × IsTrue (is_present (trimmed (slice_index_or fields column []))))

-- no name stands twice exactly where no two names are the same
abbrev pub NamesLaw : Type 0
NamesLaw = (names : List (List ℕ)) → IsFalse (has_twice names) ↔ Differ names

-- the names in a header are its fields from the second on that are not blank, in their order, each without the blanks at
-- both ends
pub record HeaderNamesLaw : Type 0 where
  pub none : names_of [] ≡ []
  pub corner : (corner : List ℕ) → names_of (corner ∷ []) ≡ []
  pub blank : (corner field : List ℕ) (fields : List (List ℕ)) → IsTrue (is_blank field) → names_of (corner ∷ field ∷ fields) ≡ names_of (corner ∷ fields)
  pub name : (corner field : List ℕ) (fields : List (List ℕ)) → IsFalse (is_blank field) → names_of (corner ∷ field ∷ fields) ≡ trimmed field ∷ names_of (corner ∷ fields)

-- a header is refused where it has no field behind the first, then where it has more of them than there may be columns,
-- and then where a name stands twice; any other is not refused
pub record HeaderLaw : Type 0 where
  pub no_column : (header : List (List ℕ)) → length header ≤ 1 → header_code header ≡ Some EMPTY
  pub many_columns : (header : List (List ℕ)) → MAX_COLUMNS + 1 < length header → header_code header ≡ Some LIMIT
  pub twice : (header : List (List ℕ)) → 1 < length header → length header ≤ MAX_COLUMNS + 1 → IsTrue (has_twice (names_of header)) → header_code header ≡ Some TWICE
  pub taken : (header : List (List ℕ)) → 1 < length header → length header ≤ MAX_COLUMNS + 1 → IsFalse (has_twice (names_of header)) → header_code header ≡ None

-- a record is refused as a row where as many rows as there may be stand before it, and then where a cell is in no form
-- that a cell may have; any other is not refused
pub record RecordLaw : Type 0 where
  pub many_rows : (before : ℕ) (fields : List (List ℕ)) → MAX_ROWS ≤ before → record_code before fields ≡ Some LIMIT
  pub foreign : (before : ℕ) (fields : List (List ℕ)) → before < MAX_ROWS → IsTrue (list_any is_foreign_cell (cells fields)) → record_code before fields ≡ Some GRAMMAR
  pub taken : (before : ℕ) (fields : List (List ℕ)) → before < MAX_ROWS → IsFalse (list_any is_foreign_cell (cells fields)) → record_code before fields ≡ None

-- a part of a field, with nothing but blanks on either side of it, and no blank at its own ends
pub record IsBetweenBlanks (part field : List ℕ) : Type 0 where
  pub front : List ℕ
  pub back : List ℕ
  pub whole : field ≡ front ++ (part ++ back)
  pub front_blank : IsTrue (is_blank front)
  pub back_blank : IsTrue (is_blank back)
  pub first : (b : ℕ) (rest : List ℕ) → part ≡ b ∷ rest → IsFalse (is_blank_byte b)
  pub last : (b : ℕ) (rest : List ℕ) → part ≡ rest ++ b ∷ [] → IsFalse (is_blank_byte b)

-- a field without the blanks at both ends is the part between them
abbrev pub TrimmedLaw : Type 0
TrimmedLaw = (field : List ℕ) → IsBetweenBlanks (trimmed field) field

-- the refusal of the first record that is refused as a row, by its number; the header is record 1
pub record IsOfFirst (further : List (List (List ℕ))) (refusal : Refusal) : Type 0 where
  pub before : ℕ
  pub within : before < length further
  pub line : refusal.line ≡ before + 2
  pub code : record_code before (slice_index_or further before []) ≡ Some refusal.code
  pub earlier : (i : ℕ) → i < before → record_code i (slice_index_or further i []) ≡ None

-- a refusal among the records after the header is of the first of them that is refused, and where there is none no
-- record is refused
abbrev pub AreTold : List (List (List ℕ)) → Option Refusal → Type 0
AreTold further (Some refusal) = IsOfFirst further refusal
AreTold further None = (i : ℕ) → i < length further → record_code i (slice_index_or further i []) ≡ None

-- the refusal among records is of the first record that is refused
abbrev pub RefusalLaw : Type 0
RefusalLaw = (further : List (List (List ℕ))) → AreTold further (record_refusal 0 further)

-- the records that csv gives for the bytes of a file
abbrev pub records_in : List ℕ → List (List (List ℕ))
records_in bytes = records default_config (strip_bom bytes)

-- whether each record has as many fields as the header
abbrev pub are_even : List (List ℕ) → List (List (List ℕ)) → Bool
are_even header further = list_all (λ fields. length fields == length header) further

-- the refusals of tables. After the length of the file come a file without a record, records of other lengths than the
-- first, the header, and then the first later record that is refused; a table in which nothing is refused is read as
-- the matrix of its records
pub record TableRefusals : Type 0 where
  pub too_long : RefusesLong table
  pub no_record : (bytes : List ℕ) → length bytes ≤ MAX_FILE_BYTES → records_in bytes ≡ [] → table bytes ≡ read.Refused (record { code = EMPTY; line = 0 })
  pub uneven : (bytes : List ℕ) (header : List (List ℕ)) (further : List (List (List ℕ))) →
      length bytes ≤ MAX_FILE_BYTES → records_in bytes ≡ header ∷ further → IsFalse (are_even header further) → table bytes ≡ read.Refused (record { code = CSV; line = 0 })
  pub bad_header : (bytes : List ℕ) (header : List (List ℕ)) (further : List (List (List ℕ))) (code : ℕ) →
      length bytes ≤ MAX_FILE_BYTES → records_in bytes ≡ header ∷ further → IsTrue (are_even header further) → header_code header ≡ Some code →
      table bytes ≡ read.Refused (record { code = code; line = 1 })
  pub bad_record : (bytes : List ℕ) (header : List (List ℕ)) (further : List (List (List ℕ))) (refusal : Refusal) →
      length bytes ≤ MAX_FILE_BYTES → records_in bytes ≡ header ∷ further → IsTrue (are_even header further) → header_code header ≡ None →
      record_refusal 0 further ≡ Some refusal → table bytes ≡ read.Refused refusal
  pub taken : (bytes : List ℕ) (header : List (List ℕ)) (further : List (List (List ℕ))) →
      length bytes ≤ MAX_FILE_BYTES → records_in bytes ≡ header ∷ further → IsTrue (are_even header further) → header_code header ≡ None →
      record_refusal 0 further ≡ None → table bytes ≡ read.Ok (table_matrix header further)
