-- Rows as lines of digits.
use Rattle.std.proofs.Common.{◌≡◌, ℕ, suc, ◌<◌, ◌≤◌, ◌+◌, ◌-◌, List, [], ◌∷◌, ◌++◌, length, get_or, ap, sym, ◌∙◌, refl, arith, Option, Some, None, true, false, if◌then◌else◌, ◌==◌, ◌||◌, ◌&&◌, not, Bool, nat_lt, nat_le, eqb-true, eq-eqb}
use Rattle.std.specs.List.{list_any, list_all}
use Rattle.std.proofs.lemmas.Bool.{and_parts, lt-leb, le-leb, ne_eqb}
use Rattle.row_model.proofs.Filtered.{filtered_row}
use Rattle.row_model.specs.Rows.{RowList, IsRow, columns_where}
use Rattle.row_model.specs.Limits.{within_length}
use Rattle.matrix_read.specs.RowsThen.{answer_after}
use Rattle.matrix_read.specs.DigitsThen.{digits_then}
use Rattle.matrix_read.proofs.RowLemmas.{answer_stop, answer_step, answer_end}
use Rattle.text_lines.proofs.LineLemmas.{filled_here, filled_blank, filled_none}
use Rattle.row_model.specs.declared.refusal.Read.{Read}
use Rattle.row_model.specs.declared.refusal.Read.TheVariants as read
use Rattle.row_model.specs.declared.TheConstants.{MAX_COLUMNS, MAX_ROWS, MAX_FILE_BYTES}
use Rattle.row_model.specs.declared.code.TheConstants.{GRAMMAR, COUNT, LIMIT}
use Rattle.text_lines.specs.Lines.{NumberedLine, is_blank, is_blank_byte, filled_lines, lines_of, without_mark}
use Rattle.row_model.proofs.Limits.{too_long, short_enough}
use Rattle.text_lines.proofs.FirstRefused.{first_refusal-later}
use mathlib.Core.Path.{fun_ext}
use Rattle.matrix_read.specs.Dense.{is_digit, digits_of, width_of, digit_row, dense, digits_code, digit_matrix, dense_lines}
use Rattle.matrix_read.specs.DenseSteps.{is_foreign_byte, digit_rows, first_code, row_code, read_lines, rows_or_refusal}
use Rattle.text_lines.specs.Rows.{refusal_or, refused_or, first_refusal}
use Rattle.matrix_read.proofs.PlaceLemmas.{places_from, places_columns}

-- the first line of all
pub first_line_refused : (line : NumberedLine) (lines rest : List NumberedLine) (code : ℕ) → lines ≡ line ∷ rest → first_code line.text ≡ Some code → read_lines lines ≡ read.Refused (record { code = code; line = line.number })
first_line_refused line lines rest code is h = rw (is, h) refl

pub first_line_taken : (line : NumberedLine) (lines rest : List NumberedLine) → lines ≡ line ∷ rest → first_code line.text ≡ None → read_lines lines ≡ rows_or_refusal (width_of line.text) lines
first_line_taken line lines rest is h =
    let width = width_of line.text in
    let clean : list_any is_foreign_byte line.text ≡ false = first_clean line.text h in
    let taken : row_code width 0 line.text ≡ None = rw (clean, eq-eqb width width refl) refl in
    rw is (ap (λ code. refused_or (refusal_or code line.number (first_refusal (row_code width) 1 rest)) (record { columns = width; rows = digit_rows (line ∷ rest) })) h
    ∙ ap (λ refusal. refused_or refusal (record { columns = width; rows = digit_rows (line ∷ rest) })) (sym (first_refusal-later (row_code width) 0 line rest taken)))
  where
    no_foreign : (foreign wide : Bool) (c1 c2 : ℕ) → (if foreign then Some c1 else if wide then Some c2 else None) ≡ None → foreign ≡ false
    no_foreign true wide c1 c2 k = absurd (cc)
    no_foreign false wide c1 c2 k = refl

    first_clean : (text : List ℕ) → first_code text ≡ None → list_any is_foreign_byte text ≡ false
    first_clean text k = no_foreign (list_any is_foreign_byte text) (nat_lt MAX_COLUMNS (width_of text)) GRAMMAR LIMIT k

-- a line that is not blank and has no foreign byte has a digit
digit_or : (digit blank filled foreign : Bool) (n : ℕ) → (blank && filled) ≡ false → (not (digit || blank) || foreign) ≡ false → (filled ≡ false → foreign ≡ false → 1 ≤ n) → 1 ≤ (if digit then suc n else n)
digit_or true blank filled foreign n h g rest = omega arith
digit_or false true filled foreign n h g rest = rest h g
digit_or false false filled foreign n h g rest = absurd (cc)

pub some_digit : (line : List ℕ) → is_blank line ≡ false → list_any is_foreign_byte line ≡ false → 1 ≤ width_of line
some_digit [] blank clean = absurd (cc)
some_digit (b ∷ line) blank clean =
    width_step (is_digit b) (digit_or (is_digit b) (is_blank_byte b) (is_blank line) (list_any is_foreign_byte line) (width_of line) blank clean (some_digit line))
  where
    width_step : (digit : Bool) → 1 ≤ (if digit then suc (width_of line) else width_of line) → 1 ≤ length (if digit then b ∷ digits_of line else digits_of line)
    width_step true h = h
    width_step false h = h

-- the first of the filled lines is not blank
filled_or : (blank : Bool) (line first : NumberedLine) (lines rest : List NumberedLine) → is_blank line.text ≡ blank → (if blank then lines else line ∷ lines) ≡ first ∷ rest → (lines ≡ first ∷ rest → is_blank first.text ≡ false) → is_blank first.text ≡ false
filled_or true line first lines rest h e later = later e
filled_or false line first lines rest h e later = let same : line ≡ first = cc in ap (λ x. is_blank x.text) (sym same) ∙ h

pub filled_first : (number : ℕ) (lines : List (List ℕ)) (first : NumberedLine) (rest : List NumberedLine) → filled_lines number lines ≡ first ∷ rest → is_blank first.text ≡ false
unfolding filled_lines
filled_first number [] first rest e = absurd (cc)
filled_first number (line ∷ lines) first rest e =
    filled_or (is_blank line) (record { number = number; text = line }) first (filled_lines (number + 1) lines) rest refl e (filled_first (number + 1) lines first rest)

-- a test that is not true
pub never_true : (b : Bool) → (b ≡ true → true ≡ false) → b ≡ false
never_true true h = h refl
never_true false h = refl

-- the columns at which digits are 1, where the first digit is of this column
abbrev pub ones_from : ℕ → List ℕ → List ℕ
ones_from column digits = places_from (λ digit. digit == 49) column digits

pub ones_columns : (line : List ℕ) → ones_from 1 (digits_of line) ≡ digit_row line
ones_columns line = places_columns (λ digit. digit == 49) 0 (digits_of line)

pub row_ascends : (c : ℕ) (line : List ℕ) → width_of line ≡ c → IsRow c (digit_row line)
row_ascends c line is = rw (← is) (filtered_row (λ column. get_or (digits_of line) (column - 1) 0 == 49) (width_of line))

-- a row that is not refused has the width of the first
last_test : (full foreign same : Bool) (c1 c2 c3 : ℕ) → (if full then Some c1 else if foreign then Some c2 else if same then None else Some c3) ≡ None → same ≡ true
last_test true foreign same c1 c2 c3 h = absurd (cc)
last_test false true same c1 c2 c3 h = absurd (cc)
last_test false false true c1 c2 c3 h = refl
last_test false false false c1 c2 c3 h = absurd (cc)

pub row_code-width : (width before : ℕ) (line : List ℕ) → row_code width before line ≡ None → width_of line ≡ width
row_code-width width before line h =
    eqb-true (width_of line) width (last_test (nat_le MAX_ROWS before) (list_any is_foreign_byte line) (width_of line == width) LIMIT GRAMMAR COUNT h)

-- lines one after another: the first tells the width, and the later ones have it
first_same : (line : List ℕ) → digits_code (width_of line) 0 line ≡ first_code line
first_same line = rw (eq-eqb (width_of line) (width_of line) refl) refl

later_same : (width : ℕ) → nat_lt MAX_COLUMNS width ≡ false → (before : ℕ) (line : List ℕ) → digits_code width before line ≡ row_code width before line
later_same width narrow before line = rw narrow (by (nat_le MAX_ROWS before) (list_any is_foreign_byte line) (width_of line == width))
  where
    by : (full foreign same : Bool) →
        (if full then Some LIMIT else if foreign then Some GRAMMAR else if not same then Some COUNT else None)
        ≡ (if full then Some LIMIT else if foreign then Some GRAMMAR else if same then None else Some COUNT)
    by true foreign same = refl
    by false true same = refl
    by false false true = refl
    by false false false = refl

pub dense_lines_same : (lines : List NumberedLine) → dense_lines lines ≡ read_lines lines
unfolding first_refusal
dense_lines_same [] = refl
dense_lines_same (first ∷ lines) = ap (λ refusal. refused_or refusal (digit_matrix (width_of first.text) (first ∷ lines))) (one ∙ by (first_code first.text) refl)
  where
    one : first_refusal (digits_code (width_of first.text)) 0 (first ∷ lines) ≡ refusal_or (first_code first.text) first.number (first_refusal (digits_code (width_of first.text)) 1 lines)
    one = ap (λ code. refusal_or code first.number (first_refusal (digits_code (width_of first.text)) 1 lines)) (first_same first.text)

    narrow : (foreign wide : Bool) → (if foreign then Some GRAMMAR else if wide then Some LIMIT else None) ≡ None → wide ≡ false
    narrow true wide k = absurd (cc)
    narrow false true k = absurd (cc)
    narrow false false k = refl

    by : (code : Option ℕ) → first_code first.text ≡ code →
        refusal_or code first.number (first_refusal (digits_code (width_of first.text)) 1 lines) ≡ refusal_or code first.number (first_refusal (row_code (width_of first.text)) 1 lines)
    by (Some code) e = refl
    by None e =
        let few : nat_lt MAX_COLUMNS (width_of first.text) ≡ false = narrow (list_any is_foreign_byte first.text) (nat_lt MAX_COLUMNS (width_of first.text)) e in
        ap (λ code_of. first_refusal code_of 1 lines) (fun_ext (λ before. fun_ext (λ line. later_same (width_of first.text) few before line)))

-- the length of the file comes first
pub dense_long : (bytes : List ℕ) → MAX_FILE_BYTES < length bytes → dense bytes ≡ read.Refused (record { code = LIMIT; line = 0 })
unfolding dense
dense_long bytes h = too_long bytes _ h

pub dense_short : (bytes : List ℕ) → length bytes ≤ MAX_FILE_BYTES → dense bytes ≡ read_lines (filled_lines 1 (lines_of (without_mark bytes)))
unfolding dense
dense_short bytes h = short_enough bytes _ h ∙ dense_lines_same (filled_lines 1 (lines_of (without_mark bytes)))

-- a blank line has no foreign byte and no digit, and a line without these is blank
blank_not_digit : (b : ℕ) → is_blank_byte b ≡ true → is_digit b ≡ false
blank_not_digit b h = by (b == 32) refl h
  where
    by : (space : Bool) → (b == 32) ≡ space → (space || (b == 9)) ≡ true → is_digit b ≡ false
    by true e k = rw (eqb-true b 32 e) refl
    by false e k = rw (eqb-true b 9 k) refl

pub blank_nothing : (line : List ℕ) → is_blank line ≡ true → (list_any is_foreign_byte line ≡ false) × (width_of line ≡ 0)
blank_nothing [] h = (refl, refl)
blank_nothing (b ∷ line) h =
    let parts = and_parts (is_blank_byte b) (is_blank line) h in
    let later = blank_nothing line parts.1 in
    let digit : is_digit b ≡ false = blank_not_digit b parts.0 in
    (rw (digit, parts.0) later.0, rw digit later.1)

pub blank_line : (line : List ℕ) → list_any is_foreign_byte line ≡ false → width_of line ≡ 0 → is_blank line ≡ true
blank_line line clean none = by (is_blank line) refl
  where
    by : (blank : Bool) → is_blank line ≡ blank → blank ≡ true
    by true e = refl
    by false e = absurd (omega (arith, some_digit line e clean, none))

pub filled_line : (line : List ℕ) → (is_blank line ≡ true → ⊥) → is_blank line ≡ false
filled_line line not_blank = by (is_blank line) refl
  where
    by : (blank : Bool) → is_blank line ≡ blank → blank ≡ false
    by true e = absurd (not_blank e)
    by false e = refl

-- the code of a line as a row, if it has one
module _ (width before : ℕ) (line : List ℕ) where
  pub code_full : MAX_ROWS ≤ before → row_code width before line ≡ Some LIMIT
  code_full full = rw (le-leb MAX_ROWS before full) refl

  pub code_foreign : before < MAX_ROWS → list_any is_foreign_byte line ≡ true → row_code width before line ≡ Some GRAMMAR
  code_foreign few foreign = rw (lt-leb MAX_ROWS before few, foreign) refl

  pub code_count : before < MAX_ROWS → list_any is_foreign_byte line ≡ false → (width_of line ≡ width → ⊥) → row_code width before line ≡ Some COUNT
  code_count few clean other = rw (lt-leb MAX_ROWS before few, clean, ne_eqb (width_of line) width other) refl

  pub code_none : before < MAX_ROWS → list_any is_foreign_byte line ≡ false → width_of line ≡ width → row_code width before line ≡ None
  code_none few clean same = rw (lt-leb MAX_ROWS before few, clean, eq-eqb (width_of line) width same) refl

-- a line with a foreign byte or a digit is not blank
pub filled_foreign : (line : List ℕ) → list_any is_foreign_byte line ≡ true → is_blank line ≡ false
filled_foreign line foreign = filled_line line (λ blank. let clean = (blank_nothing line blank).0 in absurd (cc))

pub filled_digits : (line : List ℕ) → 1 ≤ width_of line → is_blank line ≡ false
filled_digits line some = filled_line line (λ blank. omega (arith, (blank_nothing line blank).1, some))

-- the first of some lines, before which so many stand
module _ (passed : ℕ) (m : RowList) (line : List ℕ) (lines later : List (List ℕ)) (is : lines ≡ line ∷ later) where
  pub filled_first_line : is_blank line ≡ false → filled_lines (passed + 1) lines ≡ record { number = passed + 1; text = line } ∷ filled_lines (passed + 1 + 1) later
  filled_first_line h = ap (filled_lines (passed + 1)) is ∙ filled_here (passed + 1) line later h

  pub blank_first_line : is_blank line ≡ true → filled_lines (passed + 1 + 1) later ≡ filled_lines (passed + 1) lines
  blank_first_line h = sym (ap (filled_lines (passed + 1)) is ∙ filled_blank (passed + 1) line later h)

  pub digits_stop : (code : ℕ) → is_blank line ≡ false → row_code m.columns (length m.rows) line ≡ Some code → digits_then passed m lines ≡ read.Refused (record { code = code; line = passed + 1 })
  digits_stop code filled h = answer_stop (row_code m.columns) digit_row m.columns m.rows _ _ _ (filled_first_line filled) code h

  pub digits_step : (pushed : RowList) → pushed ≡ record { columns = m.columns; rows = m.rows ++ digit_row line ∷ [] } → is_blank line ≡ false → row_code m.columns (length m.rows) line ≡ None
      → digits_then (passed + 1) pushed later ≡ digits_then passed m lines
  digits_step pushed row filled h =
      ap (λ (x : RowList). digits_then (passed + 1) x later) row ∙ answer_step (row_code m.columns) digit_row m.columns m.rows _ _ _ (filled_first_line filled) h

  pub digits_blank : is_blank line ≡ true → digits_then (passed + 1) m later ≡ digits_then passed m lines
  digits_blank h = ap (answer_after (row_code m.columns) digit_row m.columns m.rows) (blank_first_line h)

-- the first of some lines, before which no row stands
module _ (passed : ℕ) (line : List ℕ) (lines later : List (List ℕ)) (is : lines ≡ line ∷ later) where
  pub front_stop : (code : ℕ) → is_blank line ≡ false → first_code line ≡ Some code → read_lines (filled_lines (passed + 1) lines) ≡ read.Refused (record { code = code; line = passed + 1 })
  front_stop code filled h =
      first_line_refused (record { number = passed + 1; text = line }) (filled_lines (passed + 1) lines) (filled_lines (passed + 1 + 1) later) code
      (ap (filled_lines (passed + 1)) is ∙ filled_here (passed + 1) line later filled) h

  pub front_row : (width : ℕ) → width ≡ width_of line → is_blank line ≡ false → first_code line ≡ None
      → digits_then passed (record { columns = width; rows = [] }) lines ≡ read_lines (filled_lines (passed + 1) lines)
  front_row width same filled h =
      ap (λ w. rows_or_refusal w (filled_lines (passed + 1) lines)) same
      ∙ sym (first_line_taken (record { number = passed + 1; text = line }) (filled_lines (passed + 1) lines) (filled_lines (passed + 1 + 1) later)
      (ap (filled_lines (passed + 1)) is ∙ filled_here (passed + 1) line later filled) h)

  pub front_blank : is_blank line ≡ true → read_lines (filled_lines (passed + 1 + 1) later) ≡ read_lines (filled_lines (passed + 1) lines)
  front_blank blank = sym (ap read_lines (ap (filled_lines (passed + 1)) is ∙ filled_blank (passed + 1) line later blank))

pub digits_end : (passed : ℕ) (m : RowList) → digits_then passed m [] ≡ read.Ok m
digits_end passed m = answer_end (row_code m.columns) digit_row m.columns m _ (filled_none (passed + 1) [] refl) refl

-- what is within the limit of bytes by another count of them
pub same_within : (n m : ℕ) → n ≡ m → (a b : Read RowList) → a ≡ b
    → (if nat_lt MAX_FILE_BYTES n then read.Refused (record { code = LIMIT; line = 0 }) else a) ≡ (if nat_lt MAX_FILE_BYTES m then read.Refused (record { code = LIMIT; line = 0 }) else b)
same_within n m size a b same = ap (λ k. if nat_lt MAX_FILE_BYTES k then read.Refused (record { code = LIMIT; line = 0 }) else a) size ∙ ap (λ r. if nat_lt MAX_FILE_BYTES m then read.Refused (record { code = LIMIT; line = 0 }) else r) same

-- a whole text
pub dense_whole : (bytes : List ℕ) →
    (if nat_lt MAX_FILE_BYTES (0 + length bytes) then read.Refused (record { code = LIMIT; line = 0 }) else read_lines (filled_lines 1 (lines_of (without_mark bytes)))) ≡ dense bytes
unfolding dense
dense_whole bytes =
    let none : 0 + length bytes ≡ length bytes = omega arith in
    ap (λ n. if nat_lt MAX_FILE_BYTES n then read.Refused (record { code = LIMIT; line = 0 }) else read_lines (filled_lines 1 (lines_of (without_mark bytes)))) none
    ∙ ap (within_length bytes) (sym (dense_lines_same (filled_lines 1 (lines_of (without_mark bytes)))))

-- a line that is digits alone
module _ (line : List ℕ) where
  pub alone_digits : list_all is_digit line ≡ true → digits_of line ≡ line
  alone_digits h = each line h
    where
      each : (xs : List ℕ) → list_all is_digit xs ≡ true → digits_of xs ≡ xs
      each [] h = refl
      each (b ∷ xs) h = let parts = and_parts (is_digit b) (list_all is_digit xs) h in rw parts.0 (ap (λ t. b ∷ t) (each xs parts.1))

  pub alone_clean : list_all is_digit line ≡ true → list_any is_foreign_byte line ≡ false
  alone_clean h = each line h
    where
      each : (xs : List ℕ) → list_all is_digit xs ≡ true → list_any is_foreign_byte xs ≡ false
      each [] h = refl
      each (b ∷ xs) h = let parts = and_parts (is_digit b) (list_all is_digit xs) h in rw parts.0 (each xs parts.1)

  pub alone_row : list_all is_digit line ≡ true → columns_where (length line) (λ column. get_or line (column - 1) 0 == 49) ≡ digit_row line
  alone_row h = sym (places_columns (λ digit. digit == 49) 0 line) ∙ ap (ones_from 1) (sym (alone_digits h)) ∙ ones_columns line
