-- A matrix in a table has no more columns, rows and ones than there are bytes.
use Rattle.std.proofs.Common.{◌≡◌, ℕ, ◌+◌, ◌-◌, ◌≤◌, Bool, true, false, if◌then◌else◌, ◌==◌, nat_lt, List, [], ◌∷◌, length, drop, map, sum_by, Some, None, refl, arith, length-drop}
use Rattle.std.specs.Prelude.{slice_index_or}
use Rattle.std.specs.List.{list_all}
use Rattle.std.proofs.lemmas.Bool.{and_parts, eqb-true, ltb-false}
use Rattle.std.proofs.lemmas.List.{length-map}
use Rattle.std.proofs.lemmas.List.Sums.{sum_by-cons}
use Rattle.csv.specs.Reading.{default_config, is_bom, strip_bom, records}
use Rattle.row_model.specs.declared.TheConstants.{MAX_COLUMNS}
use Rattle.row_model.specs.declared.code.TheConstants.{EMPTY, TWICE, LIMIT, CSV}
use Rattle.row_model.specs.declared.refusal.Read.TheVariants as read
use Rattle.text_lines.specs.Rows.{refusal_or, refused_or}
use Rattle.matrix_read.specs.Cells.{trimmed, cells, is_present, record_row}
use Rattle.matrix_read.specs.Names.{has_twice}
use Rattle.matrix_read.specs.Table.{names_of, header_code, record_refusal, table_matrix, read_records, table}
use Rattle.command_input.specs.Instances.{IfRead}
use Rattle.file_steps.proofs.Dense.{AreFew, refused_none, some_none, where_short}
use Rattle.file_steps.proofs.Found.{within_read, refused_read}
use Rattle.file_steps.proofs.Records.{commas, records_short}

-- a text without its mark is no longer
mark_short : (t : Bool) (a b c : ℕ) (bytes : List ℕ) → length (if t then bytes else a ∷ b ∷ c ∷ bytes) ≤ length (a ∷ b ∷ c ∷ bytes)
mark_short true a b c bytes = omega arith
mark_short false a b c bytes = omega arith

stripped_short : (bytes : List ℕ) → length (strip_bom bytes) ≤ length bytes
unfolding strip_bom
stripped_short [] = omega arith
stripped_short (a ∷ []) = omega arith
stripped_short (a ∷ b ∷ []) = omega arith
stripped_short (a ∷ b ∷ c ∷ bytes) = mark_short (is_bom a b c) a b c bytes

-- a header that is not refused has a column
two_fields : (few many twice : Bool) → (if few then Some EMPTY else if many then Some LIMIT else if twice then Some TWICE else None) ≡ None → few ≡ false
two_fields true many twice e = absurd (some_none EMPTY e)
two_fields false many twice e = refl

header_long : (header : List (List ℕ)) → header_code header ≡ None → 2 ≤ length header
header_long header e =
    ltb-false (length header) 2 (two_fields (nat_lt (length header) 2) (nat_lt (MAX_COLUMNS + 1) (length header)) (has_twice (names_of header)) e)

-- the columns of a record, and its row
cells_short : (fields : List (List ℕ)) → length (cells fields) ≡ commas fields
cells_short fields = length-map (drop 1 fields) trimmed

row_short : (fields : List (List ℕ)) → length (record_row fields) ≤ commas fields
row_short fields =
    omega (arith, where_short (length (cells fields)) (λ column. is_present (slice_index_or (cells fields) (column - 1) [])), cells_short fields)

ones_short : (further : List (List (List ℕ))) → sum_by length (map record_row further) ≤ sum_by commas further
ones_short [] = omega arith
ones_short (fields ∷ further) =
    omega (arith, sum_by-cons length (record_row fields) (map record_row further), sum_by-cons commas fields further, row_short fields, ones_short further)

-- records of two fields and more
rows_short : (width : ℕ) (further : List (List (List ℕ))) → 2 ≤ width → list_all (λ fields. length fields == width) further ≡ true → length further ≤ sum_by commas further
rows_short width [] two e = omega arith
rows_short width (fields ∷ further) two e =
    let both = and_parts (length fields == width) (list_all (λ fields. length fields == width) further) e in
    omega (arith, two, eqb-true (length fields) width both.0, length-drop 1 fields, sum_by-cons commas fields further, rows_short width further two both.1)

matrix_few : (header : List (List ℕ)) (further : List (List (List ℕ))) (n : ℕ) → sum_by commas (header ∷ further) ≤ n →
    list_all (λ fields. length fields == length header) further ≡ true → 2 ≤ length header → AreFew n (table_matrix header further)
matrix_few header further n few even two = record {
  columns = omega (arith, few, sum_by-cons commas header further, cells_short header);
  rows = omega (arith, few, sum_by-cons commas header further, length-map further record_row, rows_short (length header) further two even);
  ones = omega (arith, few, sum_by-cons commas header further, ones_short further);
}

if_even : (t : Bool) (header : List (List ℕ)) (further : List (List (List ℕ))) (n : ℕ) → sum_by commas (header ∷ further) ≤ n → list_all (λ fields. length fields == length header) further ≡ t →
    IfRead (if t then refused_or (refusal_or (header_code header) 1 (record_refusal 0 further)) (table_matrix header further) else read.Refused (record { code = CSV; line = 0 })) (AreFew n)
if_even true header further n few even =
    refused_read (AreFew n) (refusal_or (header_code header) 1 (record_refusal 0 further)) (table_matrix header further)
    (λ none. matrix_few header further n few even (header_long header (refused_none (header_code header) 1 (record_refusal 0 further) none).0))
if_even false header further n few even = tt

records_few : (rows : List (List (List ℕ))) (n : ℕ) → sum_by commas rows ≤ n → IfRead (read_records rows) (AreFew n)
records_few [] n few = tt
records_few (header ∷ further) n few = if_even (list_all (λ fields. length fields == length header) further) header further n few refl

pub table_few : (bytes : List ℕ) → IfRead (table bytes) (AreFew (length bytes))
unfolding table
table_few bytes =
    within_read (AreFew (length bytes)) bytes (read_records (records default_config (strip_bom bytes)))
    (records_few (records default_config (strip_bom bytes)) (length bytes) (omega (arith, records_short (strip_bom bytes), stripped_short bytes)))
