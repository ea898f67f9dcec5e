-- A matrix in lines of digits has no more columns, rows and ones than there are bytes, also where it is cut.
use Rattle.std.proofs.Common.{◌≡◌, ℕ, ◌+◌, ◌-◌, ◌*◌, ◌≤◌, Bool, true, false, if◌then◌else◌, ◌==◌, ◌||◌, not, nat_lt, nat_le, List, [], ◌∷◌, length, sum_by, Option, Some, None, is_some, refl, ap, arith, true≢false}
use Rattle.std.specs.Prelude.{slice_index_or}
use Rattle.std.specs.List.{filter, range_with_len, list_any}
use Rattle.std.proofs.lemmas.Bool.{eqb-true}
use Rattle.std.proofs.lemmas.List.{length-map}
use Rattle.std.proofs.lemmas.List.FromFn.{length-range_with_len}
use Rattle.std.proofs.lemmas.List.Sums.{sum_by-cons, length-filter, count_by-le-length}
use Rattle.column_order.specs.Orders.{has}
use Rattle.row_model.specs.Rows.{RowList, columns_where}
use Rattle.row_model.specs.declared.TheConstants.{MAX_COLUMNS, MAX_ROWS}
use Rattle.row_model.specs.declared.code.TheConstants.{GRAMMAR, COUNT, LIMIT}
use Rattle.row_model.specs.declared.refusal.Refusal.{Refusal}
use Rattle.text_lines.specs.FirstRefusal.{filled_of}
use Rattle.text_lines.specs.Lines.{is_blank_byte, NumberedLine}
use Rattle.text_lines.specs.Rows.{refusal_or, first_refusal}
use Rattle.circular_ones.specs.Circular.{complement, cut_row, cut_rows, cut}
use Rattle.matrix_read.specs.Dense.{is_digit, digits_of, width_of, digit_row, digits_code, digit_matrix, dense, dense_lines}
use Rattle.matrix_read.specs.DenseSteps.{digit_rows}
use Rattle.command_input.specs.Instances.{IfRead}
use Rattle.file_steps.proofs.Found.{within_read, refused_read}
use Rattle.file_steps.proofs.Lines.{line_room, filled_short, filled_all, filled_two}

-- no more columns, rows and ones than so many
pub record AreFew (n : ℕ) (m : RowList) : Type 0 where
  pub columns : m.columns ≤ n
  pub rows : length m.rows ≤ n
  pub ones : sum_by length m.rows ≤ n

pub filter_short : {A : Type 0} (p : A → Bool) (xs : List A) → length (filter p xs) ≤ length xs
filter_short p xs = omega (arith, length-filter p xs, count_by-le-length p xs)

pub where_short : (c : ℕ) (p : ℕ → Bool) → length (columns_where c p) ≤ c
where_short c p = omega (arith, filter_short p (range_with_len 1 c), length-range_with_len 1 c)

width_short : (line : List ℕ) → width_of line ≤ length line
width_short line = filter_short is_digit line

digits_short : (line : List ℕ) → length (digit_row line) ≤ width_of line
digits_short line = where_short (width_of line) (λ column. slice_index_or (digits_of line) (column - 1) 0 == 49)

-- no line is refused, so each has the width of all
pub some_none : {A : Type 0} (a : A) → Some a ≡ None → ⊥
some_none a e = true≢false (ap is_some e)

pub refused_none : (code : Option ℕ) (number : ℕ) (rest : Option Refusal) → refusal_or code number rest ≡ None → (code ≡ None) × (rest ≡ None)
refused_none (Some code) number rest e = absurd (some_none (record { code = code; line = number }) e)
refused_none None number rest e = (refl, e)

code_none : (past foreign same wide : Bool) → (if past then Some LIMIT else if foreign then Some GRAMMAR else if not same then Some COUNT else if wide then Some LIMIT else None) ≡ None → same ≡ true
code_none true foreign same wide e = absurd (some_none LIMIT e)
code_none false true same wide e = absurd (some_none GRAMMAR e)
code_none false false true wide e = refl
code_none false false false wide e = absurd (some_none COUNT e)

same_width : (width before : ℕ) (line : List ℕ) → digits_code width before line ≡ None → width_of line ≡ width
same_width width before line e =
    eqb-true (width_of line) width
    (code_none (nat_le MAX_ROWS before) (list_any (λ b. not (is_digit b || is_blank_byte b)) line) (width_of line == width) (nat_lt MAX_COLUMNS width) e)

-- the rows of lines, and one for each
digit_room : (lines : List NumberedLine) → sum_by length (digit_rows lines) + length lines ≤ sum_by line_room lines
digit_room [] = omega arith
digit_room (line ∷ lines) =
    omega (arith, sum_by-cons length (digit_row line.text) (digit_rows lines), sum_by-cons line_room line lines, digits_short line.text, width_short line.text, digit_room lines)

cut_short : (t : Bool) (c : ℕ) (row : List ℕ) → length row ≤ c → length (if t then complement c row else row) ≤ c
cut_short true c row h = where_short c (λ column. not (has row column))
cut_short false c row h = h

cut_room : (width before : ℕ) (lines : List NumberedLine) → first_refusal (digits_code width) before lines ≡ None →
    sum_by length (cut_rows width (digit_rows lines)) + length lines ≤ sum_by line_room lines
unfolding first_refusal
cut_room width before [] e = omega arith
cut_room width before (line ∷ lines) e =
    let none = refused_none (digits_code width before line.text) line.number (first_refusal (digits_code width) (before + 1) lines) e in
    let same : width_of line.text ≡ width = same_width width before line.text none.0 in
    let row : length (cut_row width (digit_row line.text)) ≤ width = cut_short (has (digit_row line.text) 1) width (digit_row line.text) (omega (arith, digits_short line.text, same)) in
    omega (
      arith,
      sum_by-cons length (cut_row width (digit_row line.text)) (cut_rows width (digit_rows lines)),
      sum_by-cons line_room line lines,
      row,
      same,
      width_short line.text,
      cut_room width (before + 1) lines none.1,
    )

rows_count : (lines : List NumberedLine) → length (digit_rows lines) ≡ length lines
rows_count lines = length-map lines (λ line. digit_row line.text)

-- the matrix, and the same cut
abbrev pub AreBothFew : ℕ → RowList → Type 0
AreBothFew n m = AreFew n m × AreFew n (cut m)

few_digits : (first : NumberedLine) (lines : List NumberedLine) (n : ℕ) → sum_by line_room (first ∷ lines) ≤ n + 1 → 2 * length (first ∷ lines) ≤ n + 1 →
    first_refusal (digits_code (width_of first.text)) 0 (first ∷ lines) ≡ None → AreBothFew n (digit_matrix (width_of first.text) (first ∷ lines))
few_digits first lines n room two none =
    let wide : width_of first.text ≤ n = omega (arith, room, sum_by-cons line_room first lines, width_short first.text) in
    let many : length (first ∷ lines) ≤ n = omega (arith, two) in (
      record {
        columns = wide;
        rows = omega (arith, many, rows_count (first ∷ lines));
        ones = omega (arith, room, digit_room (first ∷ lines));
      },
      record {
        columns = wide;
        rows = omega (arith, many, length-map (digit_rows (first ∷ lines)) (cut_row (width_of first.text)), rows_count (first ∷ lines));
        ones = omega (arith, room, cut_room (width_of first.text) 0 (first ∷ lines) none);
      },
    )

lines_few : (lines : List NumberedLine) (n : ℕ) → sum_by line_room lines ≤ n + 1 → 2 * length lines ≤ n + 1 → IfRead (dense_lines lines) (AreBothFew n)
lines_few [] n room two = tt
lines_few (first ∷ lines) n room two =
    refused_read (AreBothFew n) (first_refusal (digits_code (width_of first.text)) 0 (first ∷ lines)) (digit_matrix (width_of first.text) (first ∷ lines)) (few_digits first lines n room two)

pub dense_few : (bytes : List ℕ) → IfRead (dense bytes) (AreBothFew (length bytes))
unfolding dense
dense_few bytes =
    within_read (AreBothFew (length bytes)) bytes (dense_lines (filled_of bytes))
    (lines_few (filled_of bytes) (length bytes) (filled_short bytes) (omega (arith, filled_two (filled_of bytes) (filled_all bytes), filled_short bytes)))
