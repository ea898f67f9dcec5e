-- The table that is written of a matrix is read as that matrix.
use Rattle.std.proofs.Common.{◌≡◌, ℕ, zero, suc, ◌<◌, ◌≤◌, ◌+◌, ◌==◌, ◌||◌, List, [], ◌∷◌, length, map, codes, if◌then◌else◌, ap, sym, ◌∙◌, refl, arith, None, true, false, eq-eqb}
use Rattle.std.proofs.lemmas.Bool.{le-ltb}
use Rattle.std.proofs.lemmas.List.{length-map}
use Rattle.std.specs.List.{list_any, list_all, AllByRecursion}
use Rattle.std.proofs.lemmas.List.Elements.{recursion_from_All}
use Rattle.csv.specs.Reading.{default_config, records}
use Rattle.csv.specs.Writing.{read_back}
use Rattle.csv.specs.declared.parser.State.TheVariants as st
use Rattle.csv.proofs.RoundTrip.{read-write}
use Rattle.column_order.specs.Orders.{has}
use Rattle.row_model.specs.Rows.{IsRow}
use Rattle.row_model.specs.declared.refusal.Read.TheVariants as read
use Rattle.row_model.specs.declared.TheConstants.{MAX_COLUMNS, MAX_ROWS}
use Rattle.row_model.specs.declared.code.TheConstants.{CSV}
use Rattle.text_lines.specs.Rows.{refused_or}
use Rattle.matrix_read.specs.Cells.{trimmed, is_foreign_cell, record_row}
use Rattle.matrix_read.specs.Table.{names_of, header_code, record_code, record_refusal, read_records}
use Rattle.matrix_read.specs.TableSteps.{header_read, with_records}
use Rattle.matrix_read.specs.Names.{has_twice}
use Rattle.matrix_read.specs.TableLaws.{LabelledRow, crosses_from, records_with, table_text, Differ, TableLaw}
use Rattle.matrix_read.proofs.RecordLemmas.{none_at_end, records_step}
use Rattle.matrix_read.proofs.TableLemmas.{present_from, present_columns, code_none, refusal_later, none_refused, records_read, table_short}
use Rattle.matrix_read.specs.Written.{digits_from}
use Rattle.matrix_read.proofs.DenseLemmas.{ones_from}
use Rattle.matrix_read.proofs.WrittenLemmas.{ones-written}
use Rattle.matrix_read.proofs.CellLemmas.{names_law_holds}

-- the records of a text that csv writes
records-table_text : (rows : List (List (List ℕ))) → records default_config (table_text rows) ≡ map read_back rows
records-table_text [] = none_at_end default_config 1
records-table_text (fields ∷ further) =
    records_step default_config st.StartRecord (table_text (fields ∷ further)) (read_back fields, st.StartRecord, table_text further) (read-write fields (table_text further))
    ∙ ap (λ later. read_back fields ∷ later) (records-table_text further)

-- the record of a labelled row over n columns
abbrev fields_with : ℕ → LabelledRow → List (List ℕ)
fields_with n labelled = labelled.label ∷ crosses_from 1 n labelled.row

read_back-written : (n : ℕ) (rows : List LabelledRow) → map read_back (map (fields_with n) rows) ≡ map (fields_with n) rows
read_back-written n [] = refl
read_back-written n (labelled ∷ rows) = ap (λ later. fields_with n labelled ∷ later) (read_back-written n rows)

-- the cells of a row are as they are written, and mark the row
length-crosses_from : (column n : ℕ) (row : List ℕ) → length (crosses_from column n row) ≡ n
length-crosses_from column zero row = refl
length-crosses_from column (suc n) row = ap suc (length-crosses_from (column + 1) n row)

cells-written : (column n : ℕ) (row : List ℕ) → map trimmed (crosses_from column n row) ≡ crosses_from column n row
cells-written column zero row = refl
cells-written column (suc n) row =
    elim (has row column) as (λ v. (trimmed (if v then codes "x" else []) ∷ map trimmed (crosses_from (column + 1) n row)) ≡ (if v then codes "x" else []) ∷ crosses_from (column + 1) n row) [
      | true ↦ ap (λ later. codes "x" ∷ later) (cells-written (column + 1) n row)
      | false ↦ ap (λ later. [] ∷ later) (cells-written (column + 1) n row)
    ]

none_foreign : (column n : ℕ) (row : List ℕ) → list_any is_foreign_cell (crosses_from column n row) ≡ false
none_foreign column zero row = refl
none_foreign column (suc n) row =
    elim (has row column) as (λ v. (is_foreign_cell (if v then codes "x" else []) || list_any is_foreign_cell (crosses_from (column + 1) n row)) ≡ false) [
      | true ↦ none_foreign (column + 1) n row
      | false ↦ none_foreign (column + 1) n row
    ]

-- crosses mark the columns that ones mark
present-crosses : (column n : ℕ) (row : List ℕ) → present_from column (crosses_from column n row) ≡ ones_from column (digits_from column n row)
present-crosses column zero row = refl
present-crosses column (suc n) row =
    elim (has row column) as (λ v. present_from column ((if v then codes "x" else []) ∷ crosses_from (column + 1) n row) ≡ ones_from column ((if v then 49 else 48) ∷ digits_from (column + 1) n row)) [
      | true ↦ ap (λ later. column ∷ later) (present-crosses (column + 1) n row)
      | false ↦ present-crosses (column + 1) n row
    ]

marks-written : (n : ℕ) (row : List ℕ) → IsRow n row → present_from 1 (crosses_from 1 n row) ≡ row
marks-written n row is = present-crosses 1 n row ∙ ones-written n 0 n row (omega arith) is

-- no record is refused, and each is read as its row
module _ (n : ℕ) where
  record_row-written : (labelled : LabelledRow) → IsRow n labelled.row → record_row (fields_with n labelled) ≡ labelled.row
  record_row-written labelled is = sym (present_columns (fields_with n labelled)) ∙ ap (present_from 1) (cells-written 1 n labelled.row) ∙ marks-written n labelled.row is

  code-written : (before : ℕ) (labelled : LabelledRow) → before < MAX_ROWS → record_code before (fields_with n labelled) ≡ None
  code-written before labelled few = code_none before (fields_with n labelled) few (ap (list_any is_foreign_cell) (cells-written 1 n labelled.row) ∙ none_foreign 1 n labelled.row)

  none-refused : (before : ℕ) (rows : List LabelledRow) → before + length rows ≤ MAX_ROWS → record_refusal before (map (fields_with n) rows) ≡ None
  none-refused before [] few = none_refused before
  none-refused before (labelled ∷ rows) few =
      refusal_later before (fields_with n labelled) (map (fields_with n) rows) (code-written before labelled (omega arith))
      ∙ none-refused (before + 1) rows (omega arith)

  rows-written : (rows : List LabelledRow) → AllByRecursion (λ labelled. IsRow n labelled.row) rows → map record_row (map (fields_with n) rows) ≡ map (λ labelled. labelled.row) rows
  rows-written [] all = refl
  rows-written (labelled ∷ rows) all =
      ap (λ row. row ∷ map record_row (map (fields_with n) rows)) (record_row-written labelled all.0)
      ∙ ap (λ later. labelled.row ∷ later) (rows-written rows all.1)

  even-written : (width : ℕ) (rows : List LabelledRow) → width ≡ suc n → list_all (λ fields. length fields == width) (map (fields_with n) rows) ≡ true
  even-written width [] is = refl
  even-written width (labelled ∷ rows) is =
      let same : length (fields_with n labelled) ≡ width = ap suc (length-crosses_from 1 n labelled.row) ∙ sym is in
      rw (eq-eqb (length (fields_with n labelled)) width same) (even-written width rows is)

-- the header is not refused
module _ (corner : List ℕ) (names : List (List ℕ)) (some : 1 ≤ length names) (narrow : length names ≤ MAX_COLUMNS) (apart : Differ (names_of (corner ∷ names))) where
  header_code-written : header_code (corner ∷ names) ≡ None
  header_code-written =
      let distinct : has_twice (names_of (corner ∷ names)) ≡ false = (names_law_holds (names_of (corner ∷ names))).1 apart in
      rw (le-ltb (suc (length names)) 2 (omega arith), le-ltb (MAX_COLUMNS + 1) (suc (length names)) (omega arith), distinct) refl

  header-written : header_read (corner ∷ names) ≡ read.Ok (record { columns = length names; rows = [] })
  header-written = rw (header_code-written, length-map names trimmed) refl

pub table_law_holds : TableLaw
table_law_holds corner names rows some narrow apart few all short plain =
    let text = table_text (records_with corner names rows) in
    let further = map (fields_with (length names)) rows in
    table_short text short
    ∙ ap (λ bytes. read_records (records default_config bytes)) plain
    ∙ ap read_records (records-table_text (records_with corner names rows) ∙ ap (λ later. (corner ∷ names) ∷ later) (read_back-written (length names) rows))
    ∙ records_read (corner ∷ names) further
    ∙ ap (λ even. if even then with_records (header_read (corner ∷ names)) further else read.Refused (record { code = CSV; line = 0 })) (even-written (length names) (suc (length names)) rows refl)
    ∙ ap (λ begun. with_records begun further) (header-written corner names some narrow apart)
    ∙ ap (λ refusal. refused_or refusal (record { columns = length names; rows = map record_row further })) (none-refused (length names) 0 rows (omega arith))
    ∙ ap (λ rows. read.Ok (record { columns = length names; rows = rows })) (rows-written (length names) rows (recursion_from_All (λ (labelled : LabelledRow). IsRow (length names) labelled.row) rows all))
