-- A matrix that is read from a table is within the limits.
use Rattle.std.proofs.Common.{◌≡◌, ℕ, ◌+◌, ◌<◌, ◌≤◌, ◌==◌, Bool, true, false, nat_lt, if◌then◌else◌, List, [], ◌∷◌, ◌++◌, length, map, Some, None, refl, sym, ◌∙◌, arith}
use Rattle.std.specs.List.{list_any, list_all}
use Rattle.std.proofs.lemmas.Bool.{ltb-false}
use Rattle.std.proofs.lemmas.List.{length-map, length-append}
use Rattle.csv.specs.Reading.{default_config, strip_bom, records}
use Rattle.row_model.specs.declared.refusal.Read.{Read}
use Rattle.row_model.specs.declared.refusal.Read.TheVariants as read
use Rattle.row_model.specs.declared.TheConstants.{MAX_COLUMNS, MAX_ROWS}
use Rattle.row_model.specs.declared.code.TheConstants.{EMPTY, GRAMMAR, TWICE, LIMIT, CSV}
use Rattle.row_model.specs.Rows.{RowList}
use Rattle.matrix_read.specs.Names.{has_twice}
use Rattle.matrix_read.specs.Cells.{trimmed, cells, is_foreign_cell, record_row}
use Rattle.text_lines.specs.Rows.{refusal_or}
use Rattle.matrix_read.specs.Table.{names_of, header_code, record_code, record_refusal, read_records, table}
use Rattle.matrix_read.specs.TableSteps.{header_read, with_records}
use Rattle.matrix_read.proofs.TableLemmas.{records_read}
use Rattle.matrix_read.specs.Limits.{IsWithinLimits}
use Rattle.matrix_read.proofs.Within.{inside_read, ok_within, none_first, has_room}

-- a header that is not refused has a column, and no more than there may be
narrow_tests : (few many twice : Bool) (c1 c2 c3 : ℕ) → (if few then Some c1 else if many then Some c2 else if twice then Some c3 else None) ≡ None → (few ≡ false) × (many ≡ false)
narrow_tests true many twice c1 c2 c3 h = absurd (cc)
narrow_tests false true twice c1 c2 c3 h = absurd (cc)
narrow_tests false false twice c1 c2 c3 h = (refl, refl)

header_width : (header : List (List ℕ)) → header_code header ≡ None → (1 ≤ length (cells header)) × (length (cells header) ≤ MAX_COLUMNS)
header_width [] h =
    let passed = narrow_tests (nat_lt 0 2) (nat_lt (MAX_COLUMNS + 1) 0) (has_twice (names_of [])) EMPTY LIMIT TWICE h in
    absurd (omega (arith, ltb-false 0 2 passed.0))
header_width (field ∷ fields) h =
    let n = length (field ∷ fields) in
    let passed = narrow_tests (nat_lt n 2) (nat_lt (MAX_COLUMNS + 1) n) (has_twice (names_of (field ∷ fields))) EMPTY LIMIT TWICE h in
    let few : 2 ≤ n = ltb-false n 2 passed.0 in
    let many : n ≤ MAX_COLUMNS + 1 = ltb-false (MAX_COLUMNS + 1) n passed.1 in
    let same : length (map trimmed fields) ≡ length fields = length-map fields trimmed in
    (omega (arith, few, same), omega (arith, many, same))

-- records of which none is refused are no more than there may be rows
record_room : (before : ℕ) (fields : List (List ℕ)) → record_code before fields ≡ None → before < MAX_ROWS
record_room before fields h = has_room before (if list_any is_foreign_cell (cells fields) then Some GRAMMAR else None) h

few_records : (before : ℕ) (further : List (List (List ℕ))) → record_refusal before further ≡ None → before ≤ MAX_ROWS → before + length further ≤ MAX_ROWS
unfolding record_refusal
few_records before [] h le = omega arith
few_records before (fields ∷ rest) h le =
    let both = none_first (record_code before fields) (before + 2) (record_refusal (before + 1) rest) h in
    let free : before < MAX_ROWS = record_room before fields both.0 in
    let later : before + 1 + length rest ≤ MAX_ROWS = few_records (before + 1) rest both.1 (omega arith) in
    omega arith

header_within : (header : List (List ℕ)) (n : RowList) → header_read header ≡ read.Ok n → IsWithinLimits n
header_within header n e =
    ok_within (refusal_or (header_code header) 1 None) (record { columns = length (cells header); rows = [] }) n e (λ none.
    let width = header_width header (none_first (header_code header) 1 None none).0 in
    record { some = width.0; columns = width.1; rows = omega arith })

further_within : (so_far : Read RowList) (further : List (List (List ℕ))) (m : RowList) → ((n : RowList) → so_far ≡ read.Ok n → IsWithinLimits n) → with_records so_far further ≡ read.Ok m → IsWithinLimits m
further_within (read.Refused refusal) further m begun e = absurd (cc)
further_within (read.Ok n) further m begun e =
    let within = begun n refl in
    ok_within (record_refusal (length n.rows) further) (record { columns = n.columns; rows = n.rows ++ map record_row further }) m e (λ none.
    let few = few_records (length n.rows) further none within.rows in
    record { some = within.some; columns = within.columns; rows = omega (arith, few, length-append n.rows (map record_row further), length-map further record_row) })

even_read : (even : Bool) (inside : Read RowList) (m : RowList) → (if even then inside else read.Refused (record { code = CSV; line = 0 })) ≡ read.Ok m → inside ≡ read.Ok m
even_read true inside m e = e
even_read false inside m e = absurd (cc)

records_within : (all : List (List (List ℕ))) (m : RowList) → read_records all ≡ read.Ok m → IsWithinLimits m
records_within [] m e = absurd (cc)
records_within (header ∷ further) m e =
    further_within (header_read header) further m (header_within header)
    (even_read (list_all (λ (fields : List (List ℕ)). length fields == length header) further) (with_records (header_read header) further) m (sym (records_read header further) ∙ e))

pub table_within : (bytes : List ℕ) (m : RowList) → table bytes ≡ read.Ok m → IsWithinLimits m
unfolding table
table_within bytes m e =
    let all = records default_config (strip_bom bytes) in
    records_within all m (inside_read bytes (read_records all) m e)
