-- The text of a matrix is read as that matrix.
use Rattle.std.proofs.Common.{◌≡◌, ◌⊎◌, ℕ, zero, suc, ◌<◌, ◌≤◌, ◌+◌, List, [], ◌∷◌, ◌++◌, length, map, ap, sym, ◌∙◌, refl, arith, None, true, false, if◌then◌else◌, ◌==◌, ◌&&◌, eq-eqb, eqb-true, inl, inr}
use Rattle.std.proofs.lemmas.Bool.{cases_eq, ne_eqb, le-ltb, lt-leb, or_cases, and_parts}
use Rattle.std.specs.List.{list_any, list_all, AllByRecursion}
use Rattle.std.proofs.lemmas.List.Elements.{recursion_from_All}
use Rattle.column_order.specs.Orders.{has}
use Rattle.row_model.specs.Rows.{Ascends, IsRow}
use Rattle.row_model.specs.declared.refusal.Read.TheVariants as read
use Rattle.row_model.specs.declared.TheConstants.{MAX_COLUMNS, MAX_ROWS}
use Rattle.text_lines.specs.Lines.{without_mark, without_return, line_parts, lines_of, is_blank, filled_lines}
use Rattle.std.specs.Str.Lines.{strip_carriage_return}
use Rattle.text_lines.proofs.LineLemmas.{strip_is}
use Rattle.matrix_read.specs.Dense.{is_digit, digits_of, width_of, digit_row}
use Rattle.matrix_read.specs.DenseSteps.{is_foreign_byte, first_code, row_code, digit_rows, read_lines, rows_or_refusal}
use Rattle.text_lines.specs.Rows.{first_refusal, refused_or}
use Rattle.row_model.proofs.Ascending.{lacks_low}
use Rattle.matrix_read.specs.Written.{digits_from, digits_text, DenseLaw}
use Rattle.text_lines.proofs.LineLemmas.{filled_here}
use Rattle.text_lines.proofs.FirstRefused.{first_refusal-later}
use Rattle.matrix_read.proofs.DenseLemmas.{ones_from, ones_columns, first_line_taken, dense_short}

-- only digits
abbrev pub AreDigits : List ℕ → Type 0
AreDigits bytes = list_all is_digit bytes ≡ true

digit_cases : (b : ℕ) → is_digit b ≡ true → (b ≡ 48) ⊎ (b ≡ 49)
digit_cases b h = elim (or_cases (b == 48) (b == 49) h) [ inl e ↦ inl (eqb-true b 48 e) | inr e ↦ inr (eqb-true b 49 e) ]

digits-written : (column n : ℕ) (row : List ℕ) → AreDigits (digits_from column n row)
digits-written column zero row = refl
digits-written column (suc n) row =
    elim (has row column) as (λ v. (is_digit (if v then 49 else 48) && list_all is_digit (digits_from (column + 1) n row)) ≡ true) [
      | true ↦ digits-written (column + 1) n row
      | false ↦ digits-written (column + 1) n row
    ]

length-digits_from : (column n : ℕ) (row : List ℕ) → length (digits_from column n row) ≡ n
length-digits_from column zero row = refl
length-digits_from column (suc n) row = ap suc (length-digits_from (column + 1) n row)

-- behind a column the digits do not tell whether the row has it
digits_from-later : (x column n : ℕ) (row : List ℕ) → x < column → digits_from column n (x ∷ row) ≡ digits_from column n row
digits_from-later x column zero row lt = refl
digits_from-later x column (suc n) row lt = rw (ne_eqb x column (λ e. omega (arith, e)), digits_from-later x (column + 1) n row (omega arith)) refl

-- the ones of the digits are the row
pub ones-written : (c low n : ℕ) (row : List ℕ) → low + n ≡ c → Ascends c low row → ones_from (low + 1) (digits_from (low + 1) n row) ≡ row
ones-written c low zero [] e h = refl
ones-written c low zero (x ∷ row) e h = absurd (omega (arith, h.0, h.1))
ones-written c low (suc n) [] e h = ones-written c (low + 1) n [] (omega arith) tt
ones-written c low (suc n) (x ∷ row) e h =
    elim (cases_eq x (low + 1)) [
      | inl same ↦
          let rest : Ascends c (low + 1) row = rw same at h.2 in
          rw (eq-eqb x (low + 1) same, digits_from-later x (low + 1 + 1) n row (omega (arith, same)), ones-written c (low + 1) n row (omega arith) rest) (ap (λ a. a ∷ row) (sym same))
      | inr other ↦
          let above : Ascends c (low + 1) (x ∷ row) = (omega (arith, other, h.0), h.1, h.2) in
          rw (ne_eqb x (low + 1) other, lacks_low c x (low + 1) row h.2 (omega (arith, above.0))) (ones-written c (low + 1) n (x ∷ row) (omega arith) above)
    ]

-- what holds of digits
module _ (b : ℕ) (bytes : List ℕ) (digits : AreDigits (b ∷ bytes)) where
  first_digit : is_digit b ≡ true
  first_digit = (and_parts (is_digit b) (list_all is_digit bytes) digits).0

  later_digits : AreDigits bytes
  later_digits = (and_parts (is_digit b) (list_all is_digit bytes) digits).1

digits_of-digits : (bytes : List ℕ) → AreDigits bytes → digits_of bytes ≡ bytes
digits_of-digits [] h = refl
digits_of-digits (b ∷ bytes) h = rw (first_digit b bytes h, digits_of-digits bytes (later_digits b bytes h)) refl

no_foreign : (bytes : List ℕ) → AreDigits bytes → list_any is_foreign_byte bytes ≡ false
no_foreign [] h = refl
no_foreign (b ∷ bytes) h = rw (first_digit b bytes h, no_foreign bytes (later_digits b bytes h)) refl

digit_filled : (b : ℕ) (bytes : List ℕ) → is_digit b ≡ true → is_blank (b ∷ bytes) ≡ false
digit_filled b bytes h = elim (digit_cases b h) [ inl e ↦ rw e refl | inr e ↦ rw e refl ]

without_return-digits : (bytes : List ℕ) → AreDigits bytes → without_return bytes ≡ bytes
without_return-digits [] h = refl
without_return-digits (b ∷ []) h = elim (digit_cases b (first_digit b [] h)) [ inl e ↦ rw e refl | inr e ↦ rw e refl ]
without_return-digits (b ∷ a ∷ bytes) h = ap (λ t. b ∷ t) (without_return-digits (a ∷ bytes) (later_digits b (a ∷ bytes) h))

line_parts-digits : (bytes rest : List ℕ) → AreDigits bytes → line_parts (bytes ++ 10 ∷ rest) ≡ bytes ∷ line_parts rest
unfolding line_parts
line_parts-digits [] rest h = refl
line_parts-digits (b ∷ bytes) rest h =
    elim (digit_cases b (first_digit b bytes h)) [
      | inl e ↦ rw (e, line_parts-digits bytes rest (later_digits b bytes h)) refl
      | inr e ↦ rw (e, line_parts-digits bytes rest (later_digits b bytes h)) refl
    ]

without_mark-digit : (b : ℕ) (bytes : List ℕ) → is_digit b ≡ true → without_mark (b ∷ bytes) ≡ b ∷ bytes
without_mark-digit b [] h = refl
without_mark-digit b (a ∷ []) h = refl
without_mark-digit b (a ∷ d ∷ bytes) h = elim (digit_cases b h) [ inl e ↦ rw e refl | inr e ↦ rw e refl ]

-- the lines of the text are the digits of the rows
abbrev pub written : ℕ → List (List ℕ) → List (List ℕ)
written c rows = map (digits_from 1 c) rows

lines_of-digits_text : (c : ℕ) (rows : List (List ℕ)) → lines_of (digits_text c rows) ≡ written c rows
unfolding line_parts
lines_of-digits_text c [] = refl
lines_of-digits_text c (row ∷ rows) =
    let digits = digits-written 1 c row in
    ap (map strip_carriage_return) (line_parts-digits (digits_from 1 c row) (digits_text c rows) digits)
    ∙ ap (λ line. line ∷ lines_of (digits_text c rows)) (strip_is (digits_from 1 c row) ∙ without_return-digits (digits_from 1 c row) digits)
    ∙ ap (λ lines. digits_from 1 c row ∷ lines) (lines_of-digits_text c rows)

-- the row of its digits
module _ (c : ℕ) (row : List ℕ) (is : IsRow c row) where
  digit_row-written : digit_row (digits_from 1 c row) ≡ row
  digit_row-written = sym (ones_columns (digits_from 1 c row)) ∙ ap (ones_from 1) (digits_of-digits (digits_from 1 c row) (digits-written 1 c row)) ∙ ones-written c 0 c row (omega arith) is

  width_of-written : width_of (digits_from 1 c row) ≡ c
  width_of-written = ap length (digits_of-digits (digits_from 1 c row) (digits-written 1 c row)) ∙ length-digits_from 1 c row

  row_code-written : (before : ℕ) → before < MAX_ROWS → row_code c before (digits_from 1 c row) ≡ None
  row_code-written before few =
      rw (lt-leb MAX_ROWS before few, no_foreign (digits_from 1 c row) (digits-written 1 c row), width_of-written, eq-eqb c c refl) refl

  first_code-written : c ≤ MAX_COLUMNS → first_code (digits_from 1 c row) ≡ None
  first_code-written narrow = rw (no_foreign (digits_from 1 c row) (digits-written 1 c row), width_of-written, le-ltb MAX_COLUMNS c narrow) refl

-- the written rows are the filled lines, none is refused, and they are read as they are
filled-written : (c number : ℕ) (row : List ℕ) (rows : List (List ℕ)) → 1 ≤ c → filled_lines number (written c (row ∷ rows)) ≡ record { number = number; text = digits_from 1 c row } ∷ filled_lines (number + 1) (written c rows)
filled-written zero number row rows some = absurd (omega arith)
filled-written (suc c) number row rows some =
    let first = if has row 1 then 49 else 48 in
    let rest = digits_from 2 c row in
    filled_here number (first ∷ rest) (written (suc c) rows) (digit_filled first rest (first_digit first rest (digits-written 1 (suc c) row)))

module _ (c : ℕ) (some : 1 ≤ c) (narrow : c ≤ MAX_COLUMNS) where
  first_refusal-written : (before number : ℕ) (rows : List (List ℕ)) → before + length rows ≤ MAX_ROWS → AllByRecursion (IsRow c) rows → first_refusal (row_code c) before (filled_lines number (written c rows)) ≡ None
  unfolding first_refusal filled_lines
  first_refusal-written before number [] few all = refl
  first_refusal-written before number (row ∷ rows) few all =
      ap (first_refusal (row_code c) before) (filled-written c number row rows some)
      ∙ first_refusal-later (row_code c) before (record { number = number; text = digits_from 1 c row }) (filled_lines (number + 1) (written c rows)) (row_code-written c row all.0 before (omega arith))
      ∙ first_refusal-written (before + 1) (number + 1) rows (omega arith) all.1

  digit_rows-written : (number : ℕ) (rows : List (List ℕ)) → AllByRecursion (IsRow c) rows → digit_rows (filled_lines number (written c rows)) ≡ rows
  unfolding filled_lines
  digit_rows-written number [] all = refl
  digit_rows-written number (row ∷ rows) all =
      ap digit_rows (filled-written c number row rows some)
      ∙ ap (λ first. first ∷ digit_rows (filled_lines (number + 1) (written c rows))) (digit_row-written c row all.0)
      ∙ ap (λ later. row ∷ later) (digit_rows-written (number + 1) rows all.1)

  read_lines-written : (rows : List (List ℕ)) → 1 ≤ length rows → length rows ≤ MAX_ROWS → AllByRecursion (IsRow c) rows → read_lines (filled_lines 1 (written c rows)) ≡ read.Ok (record { columns = c; rows = rows })
  read_lines-written [] full few all = absurd (omega arith)
  read_lines-written (row ∷ rows) full few all =
      let lines = filled_lines 1 (written c (row ∷ rows)) in
      first_line_taken (record { number = 1; text = digits_from 1 c row }) lines (filled_lines 2 (written c rows)) (filled-written c 1 row rows some) (first_code-written c row all.0 narrow)
      ∙ ap (λ width. rows_or_refusal width lines) (width_of-written c row all.0)
      ∙ ap (λ refusal. refused_or refusal (record { columns = c; rows = digit_rows lines })) (first_refusal-written 0 1 (row ∷ rows) (omega arith) all)
      ∙ ap (λ read_so. read.Ok (record { columns = c; rows = read_so })) (digit_rows-written 1 (row ∷ rows) all)

without_mark-digits_text : (c : ℕ) (rows : List (List ℕ)) → 1 ≤ c → without_mark (digits_text c rows) ≡ digits_text c rows
without_mark-digits_text c [] some = refl
without_mark-digits_text zero (row ∷ rows) some = absurd (omega arith)
without_mark-digits_text (suc c) (row ∷ rows) some =
    let first = if has row 1 then 49 else 48 in
    without_mark-digit first (digits_from 2 c row ++ 10 ∷ digits_text (suc c) rows) (first_digit first (digits_from 2 c row) (digits-written 1 (suc c) row))

pub dense_law_holds : DenseLaw
dense_law_holds c rows some narrow full few all short =
    dense_short (digits_text c rows) short
    ∙ ap (λ text. read_lines (filled_lines 1 (lines_of text))) (without_mark-digits_text c rows some)
    ∙ ap (λ lines. read_lines (filled_lines 1 lines)) (lines_of-digits_text c rows)
    ∙ read_lines-written c some narrow rows full few (recursion_from_All (IsRow c) rows all)
