-- A matrix that is read from lines is within the limits.
use Rattle.std.proofs.Common.{◌≡◌, ◌∙◌, ℕ, ◌<◌, ◌≤◌, ◌==◌, Bool, true, false, nat_lt, if◌then◌else◌, List, [], ◌∷◌, length, map, Option, Some, None, ap, sym, refl, subst, arith}
use Rattle.std.specs.Prelude.{Result, Ok, Err}
use Rattle.std.specs.List.{list_any}
use Rattle.std.proofs.lemmas.Bool.{ltb-false}
use Rattle.std.proofs.lemmas.List.{length-map}
use Rattle.row_model.specs.declared.refusal.Refusal.{Refusal}
use Rattle.row_model.specs.declared.refusal.Read.TheVariants as read
use Rattle.row_model.specs.declared.TheConstants.{MAX_COLUMNS, MAX_ROWS}
use Rattle.row_model.specs.declared.code.TheConstants.{GRAMMAR, RANGE, COUNT, LIMIT}
use Rattle.row_model.specs.Rows.{RowList}
use Rattle.text_lines.specs.Lines.{NumberedLine, is_blank, lines_of, filled_lines, without_mark}
use Rattle.text_lines.specs.Words.{words_of, number_of, numbers_in}
use Rattle.matrix_read.specs.SparseSteps.{only_word, sparse_lines, rows_behind, width_given, width_of_number, row_named}
use Rattle.text_lines.specs.Rows.{numbered_lines, refusal_or, refused_or, first_refusal}
use Rattle.matrix_read.specs.Dense.{dense, digit_row, width_of, dense_lines}
use Rattle.matrix_read.specs.DenseSteps.{read_lines, digit_rows, first_code, row_code, is_foreign_byte}
use Rattle.matrix_read.specs.Sparse.{sparse, further, named_rows, line_code, words_code}
use Rattle.text_lines.specs.Heads.{size_given, from_head}
use Rattle.matrix_read.proofs.DenseLemmas.{filled_first, some_digit, dense_lines_same}
use Rattle.matrix_read.proofs.SparseLemmas.{sparse_lines_same}
use Rattle.matrix_read.proofs.CloneLemmas.{some_if}
use Rattle.matrix_read.specs.Limits.{IsWithinLimits}
use Rattle.matrix_read.proofs.Within.{inside_read, ok_within, none_first, has_room, few_lines}

-- what a first line that is not refused has passed
record Passes (foreign wide : Bool) : Type 0 where
  clean : foreign ≡ false
  narrow : wide ≡ false

passes : (foreign wide : Bool) (c1 c2 : ℕ) → (if foreign then Some c1 else if wide then Some c2 else None) ≡ None → Passes foreign wide
passes true wide c1 c2 h = absurd (cc)
passes false true c1 c2 h = absurd (cc)
passes false false c1 c2 h = record { clean = refl; narrow = refl }

row_room : (width before : ℕ) (line : List ℕ) → row_code width before line ≡ None → before < MAX_ROWS
row_room width before line h = has_room before (if list_any is_foreign_byte line then Some GRAMMAR else if width_of line == width then None else Some COUNT) h

-- lines of digits
digits_within : (lines : List NumberedLine) (m : RowList) → ((first : NumberedLine) (rest : List NumberedLine) → lines ≡ first ∷ rest → is_blank first.text ≡ false)
    → read_lines lines ≡ read.Ok m → IsWithinLimits m
digits_within [] m filled e = absurd (cc)
digits_within (first ∷ rest) m filled e =
    let width = width_of first.text in
    ok_within (refusal_or (first_code first.text) first.number (first_refusal (row_code width) 1 rest)) (record { columns = width; rows = digit_rows (first ∷ rest) }) m e (λ none.
    let both = none_first (first_code first.text) first.number (first_refusal (row_code width) 1 rest) none in
    let passed = passes (list_any is_foreign_byte first.text) (nat_lt MAX_COLUMNS width) GRAMMAR LIMIT both.0 in
    let few = few_lines (row_code width) (row_room width) 1 rest both.1 (omega arith) in
    record {
      some = some_digit first.text (filled first rest refl) passed.clean;
      columns = ltb-false MAX_COLUMNS width passed.narrow;
      rows = omega (arith, few, length-map rest (λ (line : NumberedLine). digit_row line.text));
    })

pub dense_within : (bytes : List ℕ) (m : RowList) → dense bytes ≡ read.Ok m → IsWithinLimits m
unfolding dense
dense_within bytes m e =
    let lines = lines_of (without_mark bytes) in
    digits_within (filled_lines 1 lines) m (filled_first 1 lines) (sym (dense_lines_same (filled_lines 1 lines)) ∙ inside_read bytes (dense_lines (filled_lines 1 lines)) m e)

-- a number of columns within the limits
abbrev IsWidth : ℕ → Type 0
IsWidth c = (1 ≤ c) × (c ≤ MAX_COLUMNS)

width_tested : (zero wide : Bool) (n c : ℕ) → (n == 0) ≡ zero → nat_lt MAX_COLUMNS n ≡ wide → (if zero then Err RANGE else if wide then Err LIMIT else Ok n) ≡ Ok c → IsWidth c
width_tested true wide n c z w e = absurd (cc)
width_tested false true n c z w e = absurd (cc)
width_tested false false n c z w e =
    let same : n ≡ c = cc in
    subst IsWidth same (some_if n (sym z), ltb-false MAX_COLUMNS n w)

number_width : (number : Option ℕ) (c : ℕ) → width_of_number number ≡ Ok c → IsWidth c
number_width None c e = absurd (cc)
number_width (Some n) c e = width_tested (n == 0) (nat_lt MAX_COLUMNS n) n c refl refl e

word_width : (word : Option (List ℕ)) (c : ℕ) → width_given word ≡ Ok c → IsWidth c
word_width None c e = absurd (cc)
word_width (Some word) c e = number_width (number_of word) c e

line_room : (c before : ℕ) (line : List ℕ) → line_code c before line ≡ None → before < MAX_ROWS
line_room c before line h = has_room before (words_code c (words_of line)) h

-- lines that name columns
behind_within : (number : ℕ) (width : Result ℕ ℕ) (lines : List NumberedLine) (m : RowList) → ((c : ℕ) → width ≡ Ok c → IsWidth c) → rows_behind number width lines ≡ read.Ok m → IsWithinLimits m
behind_within number (Err code) lines m w e = absurd (cc)
behind_within number (Ok c) lines m w e =
    let row : NumberedLine → List ℕ = λ line. row_named c line.text in
    ok_within (first_refusal (line_code c) 0 lines) (record { columns = c; rows = map row lines }) m e (λ none.
    let few = few_lines (line_code c) (line_room c) 0 lines none (omega arith) in
    record { some = (w c refl).0; columns = (w c refl).1; rows = omega (arith, few, length-map lines row) })

names_within : (lines : List NumberedLine) (m : RowList) → sparse_lines lines ≡ read.Ok m → IsWithinLimits m
names_within [] m e = absurd (cc)
names_within (first ∷ lines) m e = behind_within first.number (width_given (only_word (words_of first.text))) lines m (word_width (only_word (words_of first.text))) e

pub sparse_within : (bytes : List ℕ) (m : RowList) → sparse bytes ≡ read.Ok m → IsWithinLimits m
unfolding sparse
sparse_within bytes m e =
    let lines = numbered_lines 1 (lines_of (without_mark bytes)) in
    names_within lines m (sym (sparse_lines_same lines) ∙ inside_read bytes (from_head (λ line. size_given MAX_COLUMNS (numbers_in line)) named_rows lines) m e)

-- further rows
pub further_within : (c : ℕ) (bytes : List ℕ) (m : RowList) → further c bytes ≡ read.Ok m → (m.columns ≡ c) × (length m.rows ≤ MAX_ROWS)
unfolding further
further_within c bytes m e = of_rows (inside_read bytes (named_rows c rows) m e)
  where
    rows : List NumberedLine
    rows = numbered_lines 1 (lines_of (without_mark bytes))

    row : NumberedLine → List ℕ
    row line = row_named c line.text

    taken : (refusal : Option Refusal) → first_refusal (line_code c) 0 rows ≡ refusal → refused_or refusal (record { columns = c; rows = map row rows }) ≡ read.Ok m → (m.columns ≡ c) × (length m.rows ≤ MAX_ROWS)
    taken (Some refusal) h k = absurd (cc)
    taken None h k =
        let same : record { columns = c; rows = map row rows } ≡ m = cc in
        let few = few_lines (line_code c) (line_room c) 0 rows h (omega arith) in
        (ap (λ (x : RowList). x.columns) (sym same), omega (arith, few, length-map rows row, ap (λ (x : RowList). length x.rows) same))

    of_rows : named_rows c rows ≡ read.Ok m → (m.columns ≡ c) × (length m.rows ≤ MAX_ROWS)
    of_rows k = taken (first_refusal (line_code c) 0 rows) refl k
