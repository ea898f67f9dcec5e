-- Tables that are read record by record.
use Rattle.std.proofs.Common.{◌≡◌, ℕ, zero, suc, ◌+◌, ◌-◌, ◌<◌, ◌≤◌, ◌==◌, ◌&&◌, Bool, true, false, if◌then◌else◌, List, [], ◌∷◌, ◌++◌, length, map, take, drop, get_or, set, Option, Some, None, ap, sym, ◌∙◌, refl, arith, add-one, append_assoc, length-append, eqb-true}
use Rattle.std.proofs.lemmas.Bool.{le-leb, lt-leb}
use Rattle.std.proofs.Math.Seq.{take-append_seam}
use Rattle.std.proofs.lemmas.List.{append-nil, length-map, take_more_set, take-set-le}
use Rattle.std.specs.Int.{from_bool}
use Rattle.std.specs.List.{list_any, list_all, filter}
use Rattle.csv.specs.Reading.{default_config, strip_bom, records}
use Rattle.csv.specs.Records.{field_at}
use Rattle.row_model.specs.Rows.{RowList, IsRow}
use Rattle.row_model.specs.declared.refusal.Read.{Read}
use Rattle.row_model.specs.declared.refusal.Read.TheVariants as read
use Rattle.row_model.specs.declared.TheConstants.{MAX_ROWS, MAX_FILE_BYTES}
use Rattle.row_model.specs.declared.code.TheConstants.{GRAMMAR, LIMIT, CSV}
use Rattle.text_lines.specs.Lines.{is_blank_byte, is_blank}
use Rattle.text_lines.specs.Rows.{refusal_or, refused_or}
use Rattle.row_model.proofs.Filtered.{filtered_row}
use Rattle.row_model.proofs.Limits.{too_long, short_enough}
use Rattle.matrix_read.proofs.PlaceLemmas.{places_from, places_columns}
use Rattle.matrix_read.specs.Cells.{without_last_blanks, trimmed, cells, is_empty, is_present, is_foreign_cell, record_row}
use Rattle.matrix_read.specs.Table.{header_code, record_code, record_refusal, table_matrix, read_records, table}
use Rattle.matrix_read.specs.TableLaws.{are_even, TableRefusals}
use Rattle.matrix_read.specs.TableSteps.{header_read, with_records, with_even_records}

-- a byte after the last that is no blank
filled_more : (bytes : List ℕ) (n : ℕ) → n < length bytes → is_blank_byte (get_or bytes n 0) ≡ false → is_blank (take (suc n) bytes) ≡ false
filled_more [] n h e = absurd (omega arith)
filled_more (b ∷ bytes) zero h e = let is : is_blank_byte b ≡ false = e in rw is refl
filled_more (b ∷ bytes) (suc n) h e = rw (filled_more bytes n (omega arith) e) (elim (is_blank_byte b) as (λ v. (v && false) ≡ false) [ true ↦ refl | false ↦ refl ])

blank_more : (bytes : List ℕ) (n : ℕ) → n < length bytes → is_blank_byte (get_or bytes n 0) ≡ true → is_blank (take (suc n) bytes) ≡ is_blank (take n bytes)
blank_more [] n h e = absurd (omega arith)
blank_more (b ∷ bytes) zero h e = let is : is_blank_byte b ≡ true = e in rw is refl
blank_more (b ∷ bytes) (suc n) h e = ap (λ v. is_blank_byte b && v) (blank_more bytes n (omega arith) e)

last_kept : (bytes : List ℕ) (n : ℕ) → n < length bytes → is_blank_byte (get_or bytes n 0) ≡ false → without_last_blanks (take (suc n) bytes) ≡ take (suc n) bytes
last_kept [] n h e = absurd (omega arith)
last_kept (b ∷ bytes) zero h e = let is : is_blank_byte b ≡ false = e in rw is refl
last_kept (b ∷ bytes) (suc n) h e =
    ap (λ v. if v then [] else b ∷ without_last_blanks (take (suc n) bytes)) (filled_more (b ∷ bytes) (suc n) h e)
    ∙ ap (λ t. b ∷ t) (last_kept bytes n (omega arith) e)

last_dropped : (bytes : List ℕ) (n : ℕ) → n < length bytes → is_blank_byte (get_or bytes n 0) ≡ true → without_last_blanks (take (suc n) bytes) ≡ without_last_blanks (take n bytes)
last_dropped [] n h e = absurd (omega arith)
last_dropped (b ∷ bytes) zero h e = let is : is_blank_byte b ≡ true = e in rw is refl
last_dropped (b ∷ bytes) (suc n) h e =
    ap (λ v. if v then [] else b ∷ without_last_blanks (take (suc n) bytes)) (blank_more (b ∷ bytes) (suc n) h e)
    ∙ ap (λ t. if is_blank (b ∷ take n bytes) then [] else b ∷ t) (last_dropped bytes n (omega arith) e)

-- the bytes before a place
module _ (bytes : List ℕ) (place n : ℕ) (is : place ≡ suc n) (within : place ≤ length bytes) where
  pub kept_before : is_blank_byte (get_or bytes n 0) ≡ false → without_last_blanks (take place bytes) ≡ take place bytes
  kept_before e = rw is (last_kept bytes n (omega arith) e)

  pub dropped_before : is_blank_byte (get_or bytes n 0) ≡ true → without_last_blanks (take place bytes) ≡ without_last_blanks (take n bytes)
  dropped_before e = rw is (last_dropped bytes n (omega arith) e)

-- the cells from a field on
pub cells_step : (fields : List (List ℕ)) (i : ℕ) (field : List ℕ) → field_at fields i ≡ Some field → map trimmed (drop i fields) ≡ trimmed field ∷ map trimmed (drop (i + 1) fields)
unfolding field_at
cells_step [] i field e = absurd (cc)
cells_step (f ∷ fields) zero field e = let same : f ≡ field = cc in ap (λ t. trimmed t ∷ map trimmed fields) same
cells_step (f ∷ fields) (suc i) field e = cells_step fields i field e ∙ ap (λ k. trimmed field ∷ map trimmed (drop k (f ∷ fields))) (sym (add-one (i + 1)) ∙ omega arith)

-- an empty field is an empty cell
empty_cell : (field : List ℕ) → is_empty field ≡ true → trimmed field ≡ []
empty_cell [] h = refl
empty_cell (b ∷ field) h = absurd (omega (arith, eqb-true (length (b ∷ field)) 0 h))

-- the columns whose cells say that the row has them, where the first cell is of this column
abbrev pub present_from : ℕ → List (List ℕ) → List ℕ
present_from column cells = places_from is_present column cells

-- one field more: whether its cell is foreign, and its column, which is written whether or not the row has it
module _ (fields : List (List ℕ)) (i : ℕ) (field : List ℕ) (is : field_at fields i ≡ Some field) where
  pub foreign_here : is_foreign_cell (trimmed field) ≡ true → list_any is_foreign_cell (map trimmed (drop i fields)) ≡ true
  foreign_here h = rw (cells_step fields i field is, h) refl

  pub foreign_later : is_foreign_cell (trimmed field) ≡ false → list_any is_foreign_cell (map trimmed (drop (i + 1) fields)) ≡ list_any is_foreign_cell (map trimmed (drop i fields))
  foreign_later h = rw (cells_step fields i field is, h) refl

  pub column_more : (columns : List ℕ) (ones entry : ℕ) → ones < length columns → entry ≡ from_bool (is_present (trimmed field))
      → take (ones + entry) (set columns ones i) ++ present_from (i + 1) (map trimmed (drop (i + 1) fields)) ≡ take ones columns ++ present_from i (map trimmed (drop i fields))
  column_more columns ones entry within h = rw (cells_step fields i field is, h) (by (is_present (trimmed field)))
    where
      rest : List ℕ
      rest = present_from (i + 1) (map trimmed (drop (i + 1) fields))

      by : (v : Bool) → take (ones + from_bool v) (set columns ones i) ++ rest ≡ take ones columns ++ (if v then i ∷ rest else rest)
      by true = rw (take_more_set columns ones i within) (append_assoc (take ones columns) (i ∷ []) rest)
      by false = rw (take-set-le (ones + 0) columns ones i (omega arith)) (ap (λ n. take n columns ++ rest) (omega arith))

  pub foreign_empty : is_empty field ≡ true → list_any is_foreign_cell (map trimmed (drop (i + 1) fields)) ≡ list_any is_foreign_cell (map trimmed (drop i fields))
  foreign_empty h = rw (cells_step fields i field is, empty_cell field h) refl

  pub column_empty : is_empty field ≡ true → present_from (i + 1) (map trimmed (drop (i + 1) fields)) ≡ present_from i (map trimmed (drop i fields))
  column_empty h = rw (cells_step fields i field is, empty_cell field h) refl

-- what is written over a whole list
pub written_whole : (xs ys : List ℕ) (n : ℕ) → n ≡ length xs → take n (xs ++ ys) ≡ xs
written_whole xs ys n h = rw h (take-append_seam xs ys)

-- an entry is 0 or 1
pub entry_le : (entry : ℕ) (has : Bool) → entry ≡ from_bool has → entry ≤ 1
entry_le entry true h = omega (arith, h)
entry_le entry false h = omega (arith, h)

-- the first item, which a filter keeps
pub filter_kept : (keeps : List ℕ → Bool) (xs rest : List (List ℕ)) (x : List ℕ) → xs ≡ x ∷ rest → keeps x ≡ true → filter keeps xs ≡ x ∷ filter keeps rest
filter_kept keeps xs rest x is h = rw (is, h) refl

-- from column 1 on they are the row
pub present_columns : (fields : List (List ℕ)) → present_from 1 (cells fields) ≡ record_row fields
present_columns fields = places_columns is_present [] (cells fields)

length-cells : (fields : List (List ℕ)) (n : ℕ) → length fields ≡ n + 1 → length (cells fields) ≡ n
length-cells [] n h = absurd (omega arith)
length-cells (f ∷ fields) n h = length-map fields trimmed ∙ omega arith

pub row_ascends : (c : ℕ) (fields : List (List ℕ)) → length fields ≡ c + 1 → IsRow c (record_row fields)
row_ascends c fields h = rw (← length-cells fields c h) (filtered_row (λ column. is_present (get_or (cells fields) (column - 1) [])) (length (cells fields)))

-- one record and then others
module _ (before : ℕ) (fields : List (List ℕ)) (rest : List (List (List ℕ))) where
  pub refusal_here : (code : ℕ) → record_code before fields ≡ Some code → record_refusal before (fields ∷ rest) ≡ Some (record { code = code; line = before + 2 })
  unfolding record_refusal
  refusal_here code h = rw h refl

  pub refusal_later : record_code before fields ≡ None → record_refusal before (fields ∷ rest) ≡ record_refusal (before + 1) rest
  unfolding record_refusal
  refusal_later h = rw h refl

pub none_refused : (before : ℕ) → record_refusal before [] ≡ None
unfolding record_refusal
none_refused before = refl

pub code_full : (before : ℕ) (fields : List (List ℕ)) → MAX_ROWS ≤ before → record_code before fields ≡ Some LIMIT
code_full before fields h = rw (le-leb MAX_ROWS before h) refl

module _ (before : ℕ) (fields : List (List ℕ)) (few : before < MAX_ROWS) where
  pub code_foreign : list_any is_foreign_cell (cells fields) ≡ true → record_code before fields ≡ Some GRAMMAR
  code_foreign h = rw (lt-leb MAX_ROWS before few, h) refl

  pub code_none : list_any is_foreign_cell (cells fields) ≡ false → record_code before fields ≡ None
  code_none h = rw (lt-leb MAX_ROWS before few, h) refl

pub record_refused : (m : RowList) (fields : List (List ℕ)) (rest : List (List (List ℕ))) (code : ℕ) → record_code (length m.rows) fields ≡ Some code
    → with_records (read.Ok m) (fields ∷ rest) ≡ read.Refused (record { code = code; line = length m.rows + 2 })
record_refused m fields rest code h = rw (refusal_here (length m.rows) fields rest code h) refl

pub record_taken : (m : RowList) (fields : List (List ℕ)) (rest : List (List (List ℕ))) → record_code (length m.rows) fields ≡ None
    → with_records (read.Ok m) (fields ∷ rest) ≡ with_records (read.Ok (record { columns = m.columns; rows = m.rows ++ record_row fields ∷ [] })) rest
record_taken m fields rest h =
    let count : length (m.rows ++ record_row fields ∷ []) ≡ length m.rows + 1 = length-append m.rows (record_row fields ∷ []) in
    rw (refusal_later (length m.rows) fields rest h, count, append_assoc m.rows (record_row fields ∷ []) (map record_row rest)) refl

pub no_record : (so_far : Read RowList) → with_records so_far [] ≡ so_far
no_record (read.Refused refusal) = refl
no_record (read.Ok m) = rw (none_refused (length m.rows), append-nil m.rows) refl

pub one_by_one : (so_far : Read RowList) (fields : List (List ℕ)) (rest : List (List (List ℕ))) → with_records (with_records so_far (fields ∷ [])) rest ≡ with_records so_far (fields ∷ rest)
one_by_one (read.Refused refusal) fields rest = refl
one_by_one (read.Ok m) fields rest = by (record_code (length m.rows) fields) refl
  where
    by : (code : Option ℕ) → record_code (length m.rows) fields ≡ code → with_records (with_records (read.Ok m) (fields ∷ [])) rest ≡ with_records (read.Ok m) (fields ∷ rest)
    by (Some code) e = ap (λ r. with_records r rest) (record_refused m fields [] code e) ∙ sym (record_refused m fields rest code e)
    by None e =
        ap (λ r. with_records r rest) (record_taken m fields [] e ∙ no_record (read.Ok (record { columns = m.columns; rows = m.rows ++ record_row fields ∷ [] })))
        ∙ sym (record_taken m fields rest e)

-- records of one length, one after another
module _ (width : ℕ) (so_far : Read RowList) (fields : List (List ℕ)) (further rest : List (List (List ℕ))) (is : further ≡ fields ∷ rest) where
  pub uneven_here : (length fields ≡ width → ⊥) → with_even_records width so_far further ≡ read.Refused (record { code = CSV; line = 0 })
  uneven_here h = rw is (by (length fields == width) refl)
    where
      by : (b : Bool) → (length fields == width) ≡ b → (if b && list_all (λ f. length f == width) rest then with_records so_far (fields ∷ rest) else read.Refused (record { code = CSV; line = 0 })) ≡ read.Refused (record { code = CSV; line = 0 })
      by true e = absurd (h (eqb-true (length fields) width e))
      by false e = refl

  pub even_here : length fields ≡ width → with_even_records width (with_records so_far (fields ∷ [])) rest ≡ with_even_records width so_far further
  even_here h =
      let same : (length fields == width) ≡ true = rw h (eqb_same width) in
      rw (is, same) (ap (λ r. if list_all (λ f. length f == width) rest then r else read.Refused (record { code = CSV; line = 0 })) (one_by_one so_far fields rest))
    where
      eqb_same : (n : ℕ) → (n == n) ≡ true
      eqb_same n = grind arith

pub even_end : (width : ℕ) (so_far : Read RowList) (further : List (List (List ℕ))) → further ≡ [] → with_even_records width so_far further ≡ so_far
even_end width so_far further is = rw is (no_record so_far)

-- the header, and the records behind it one after another
pub records_read : (header : List (List ℕ)) (further : List (List (List ℕ))) → read_records (header ∷ further) ≡ with_even_records (length header) (header_read header) further
records_read header further = by (list_all (λ (fields : List (List ℕ)). length fields == length header) further) (header_code header)
  where
    m : RowList
    m = record { columns = length (cells header); rows = map record_row further }

    by : (even : Bool) (code : Option ℕ)
        → (if even then refused_or (refusal_or code 1 (record_refusal 0 further)) m else read.Refused (record { code = CSV; line = 0 }))
        ≡ (if even then with_records (refused_or (refusal_or code 1 None) (record { columns = length (cells header); rows = [] })) further else read.Refused (record { code = CSV; line = 0 }))
    by false code = refl
    by true (Some code) = refl
    by true None = refl

-- the length of the file comes first
pub table_long : (bytes : List ℕ) → MAX_FILE_BYTES < length bytes → table bytes ≡ read.Refused (record { code = LIMIT; line = 0 })
unfolding table
table_long bytes h = too_long bytes _ h

pub table_short : (bytes : List ℕ) → length bytes ≤ MAX_FILE_BYTES → table bytes ≡ read_records (records default_config (strip_bom bytes))
unfolding table
table_short bytes h = short_enough bytes _ h

-- what is refused of records of one length, and of others
module _ (header : List (List ℕ)) (further : List (List (List ℕ))) where
  read_if : (even : Bool) → are_even header further ≡ even → read_records (header ∷ further) ≡ (if even then refused_or (refusal_or (header_code header) 1 (record_refusal 0 further)) (table_matrix header further) else read.Refused (record { code = CSV; line = 0 }))
  read_if even h = ap (λ b. if b then refused_or (refusal_or (header_code header) 1 (record_refusal 0 further)) (table_matrix header further) else read.Refused (record { code = CSV; line = 0 })) h

  read_header_refused : (code : ℕ) → are_even header further ≡ true → header_code header ≡ Some code → read_records (header ∷ further) ≡ read.Refused (record { code = code; line = 1 })
  read_header_refused code h e = read_if true h ∙ ap (λ c. refused_or (refusal_or c 1 (record_refusal 0 further)) (table_matrix header further)) e

  read_header_taken : are_even header further ≡ true → header_code header ≡ None → read_records (header ∷ further) ≡ refused_or (record_refusal 0 further) (table_matrix header further)
  read_header_taken h e = read_if true h ∙ ap (λ c. refused_or (refusal_or c 1 (record_refusal 0 further)) (table_matrix header further)) e

pub table_refusals : TableRefusals
table_refusals = record {
  too_long = table_long;
  no_record = λ bytes short e. table_short bytes short ∙ ap read_records e;
  uneven = λ bytes header further short e h. table_short bytes short ∙ ap read_records e ∙ read_if header further false h;
  bad_header = λ bytes header further code short e h k. table_short bytes short ∙ ap read_records e ∙ read_header_refused header further code h k;
  bad_record = λ bytes header further refusal short e h k r.
      table_short bytes short ∙ ap read_records e ∙ read_header_taken header further h k ∙ ap (λ found. refused_or found (table_matrix header further)) r;
  taken = λ bytes header further short e h k r.
      table_short bytes short ∙ ap read_records e ∙ read_header_taken header further h k ∙ ap (λ found. refused_or found (table_matrix header further)) r;
}
