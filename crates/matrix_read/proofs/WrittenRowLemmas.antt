-- The text of lines that name the columns of rows is read as these rows.
use Rattle.std.proofs.Common.{◌≡◌, ◌⊎◌, ℕ, ◌<◌, ◌≤◌, ◌+◌, ◌^◌, List, [], ◌∷◌, ◌++◌, length, map, ap, sym, ◌∙◌, refl, arith, None, Some, Ok, true, false, ◌==◌, not, eq-eqb, inl, inr}
use Rattle.std.proofs.lemmas.Bool.{ne_eqb, le-leb, le-ltb, leb-true, and_parts, or_right}
use Rattle.std.proofs.lemmas.List.{append-nil}
use Rattle.std.proofs.lemmas.Fmt.{digits_decimal, digits_value-decimal, decimal_nonempty, IsAscii-decimal}
use Rattle.std.proofs.lemmas.Str.{IsAscii-append}
use Rattle.std.proofs.lemmas.Str.Ascii.{IsAscii-nil, IsAscii-cons}
use Rattle.std.proofs.lemmas.Str.Parse.{IsNumeralModel, numerals_by_fold}
use Rattle.std.specs.Char.{is_ascii_digit}
use Rattle.std.specs.Fmt.{decimal}
use Rattle.std.specs.List.{list_all, AllByRecursion}
use Rattle.std.specs.Str.{IsAscii}
use Rattle.std.proofs.Common.{rules}
use Rattle.column_order.specs.Orders.{has}
use Rattle.column_order.specs.declared.TheConstants.{COLUMN_BOUND}
use Rattle.row_model.proofs.Ascending.{row_within}
use Rattle.row_model.specs.declared.refusal.Read.TheVariants as read
use Rattle.row_model.specs.declared.TheConstants.{MAX_COLUMNS, MAX_ROWS}
use Rattle.text_lines.specs.Lines.{NumberedLine, is_blank_byte, without_mark, without_return, line_parts, lines_of}
use Rattle.std.specs.List.{onto_first}
use Rattle.std.specs.Str.Lines.{strip_carriage_return}
use Rattle.text_lines.proofs.LineLemmas.{strip_is}
use Rattle.text_lines.specs.Words.{begins_word, words_of, number_after, number_of}
use Rattle.matrix_read.specs.SparseSteps.{only_word, width_of_number, columns_named, row_named, width_given, sparse_lines}
use Rattle.text_lines.specs.Rows.{numbered_lines, first_refusal, refused_or, columns_among}
use Rattle.matrix_read.specs.Sparse.{column_code, words_code, line_code, named_rows}
use Rattle.matrix_read.specs.WrittenRows.{spaced, named_line, named_text, Names, NameAll, FurtherLaw, SparseLaw}
use Rattle.text_lines.proofs.WordLemmas.{words_of_blank, words_of_last, words_of_more, numeral_value, number_some}
use Rattle.row_model.proofs.Columns.{columns_same, columns_row}
use Rattle.matrix_read.proofs.SparseLemmas.{sparse_short, further_short, first_taken, line_taken, words_next, words_end}

-- the bytes of numbers and of the spaces between them
abbrev pub IsDigit : ℕ → Type 0
IsDigit b = (48 ≤ b) × (b ≤ 57)

abbrev pub IsWritten : ℕ → Type 0
IsWritten b = (b ≡ 32) ⊎ IsDigit b

own : IsNumeralModel (λ ds. list_all is_ascii_digit ds ≡ true) (number_after 0)
own = numerals_by_fold _ (search rules) number_after (search rules)

are_digits : (bytes : List ℕ) → list_all is_ascii_digit bytes ≡ true → AllByRecursion IsDigit bytes
are_digits [] h = tt
are_digits (b ∷ bytes) h =
    let parts = and_parts (is_ascii_digit b) (list_all is_ascii_digit bytes) h in
    let bounds = and_parts _ _ parts.0 in
    ((leb-true 48 b bounds.0, leb-true b 57 bounds.1), are_digits bytes parts.1)

decimal_digits : (n : ℕ) → n < 2 ^ 64 → AllByRecursion IsDigit (decimal n)
decimal_digits n small = are_digits (decimal n) (digits_decimal own n small)

decimal_value : (n : ℕ) → n < 2 ^ 64 → number_of (decimal n) ≡ Some n
decimal_value n small = number_some (number_of (decimal n)) n (numeral_value (decimal n) (decimal_nonempty n small) (digits_decimal own n small) n (sym (digits_value-decimal own n small)) small)

-- a word of digits before bytes that begin no word
digit_filled : (b : ℕ) → IsDigit b → is_blank_byte b ≡ false
digit_filled b h = rw (ne_eqb b 32 (λ e. omega (arith, e, h.0)), ne_eqb b 9 (λ e. omega (arith, e, h.0))) refl

word_before : (word rest : List ℕ) → 0 < length word → AllByRecursion IsDigit word → begins_word rest ≡ false → words_of (word ++ rest) ≡ word ∷ words_of rest
word_before [] rest some digits apart = absurd (omega arith)
word_before (b ∷ []) rest some digits apart = words_of_last b rest (digit_filled b digits.0) apart
word_before (b ∷ a ∷ word) rest some digits apart =
    words_of_more b (a ∷ (word ++ rest)) (digit_filled b digits.0) (ap not (digit_filled a digits.1.0))
    ∙ ap (onto_first b) (word_before (a ∷ word) rest (omega arith) digits.1 apart)

-- the columns are within 1 to c
abbrev pub AreWithin : ℕ → List ℕ → Type 0
AreWithin c columns = AllByRecursion (λ a. (1 ≤ a) × (a ≤ c)) columns

-- the words of a line that names columns
spaced_apart : (columns : List ℕ) → begins_word (spaced columns) ≡ false
spaced_apart [] = refl
spaced_apart (column ∷ columns) = refl

module _ (c : ℕ) (small : c ≤ COLUMN_BOUND) where
  small_enough : (a : ℕ) → a ≤ c → a < 2 ^ 64
  small_enough a le = omega arith

  words_of-spaced : (columns : List ℕ) → AreWithin c columns → words_of (spaced columns) ≡ map decimal columns
  unfolding words_of
  words_of-spaced [] within = refl
  words_of-spaced (column ∷ columns) within =
      let fits = small_enough column within.0.1 in
      words_of_blank 32 (decimal column ++ spaced columns) refl
      ∙ word_before (decimal column) (spaced columns) (decimal_nonempty column fits) (decimal_digits column fits) (spaced_apart columns)
      ∙ ap (λ words. decimal column ∷ words) (words_of-spaced columns within.1)

  words_of-line : (columns : List ℕ) → AreWithin c columns → words_of (named_line columns) ≡ map decimal columns
  unfolding words_of
  words_of-line [] within = refl
  words_of-line (column ∷ columns) within =
      let fits = small_enough column within.0.1 in
      word_before (decimal column) (spaced columns) (decimal_nonempty column fits) (decimal_digits column fits) (spaced_apart columns)
      ∙ ap (λ words. decimal column ∷ words) (words_of-spaced columns within.1)

  -- they are the columns, and none is refused
  columns_named-decimals : (columns : List ℕ) → AreWithin c columns → columns_named (map decimal columns) ≡ columns
  columns_named-decimals [] within = refl
  columns_named-decimals (column ∷ columns) within =
      ap (λ n. n ∷ columns_named (map decimal columns)) (digits_value-decimal own column (small_enough column within.0.1)) ∙ ap (λ ns. column ∷ ns) (columns_named-decimals columns within.1)

  words_code-decimals : (columns : List ℕ) → AreWithin c columns → words_code c (map decimal columns) ≡ None
  words_code-decimals [] within = words_end c [] refl
  words_code-decimals (column ∷ columns) within =
      let taken : column_code c (number_of (decimal column)) ≡ None = ap (column_code c) (decimal_value column (small_enough column within.0.1)) ∙ rw (le-leb 1 column within.0.0, le-leb column c within.0.1) refl in
      sym (words_next c (map decimal (column ∷ columns)) (map decimal columns) (decimal column) refl taken) ∙ words_code-decimals columns within.1

all_within : (c : ℕ) (columns : List ℕ) → ((a : ℕ) → has columns a ≡ true → (1 ≤ a) × (a ≤ c)) → AreWithin c columns
all_within c [] h = tt
all_within c (column ∷ columns) h =
    let here : has (column ∷ columns) column ≡ true = rw (eq-eqb column column refl) refl in
    (h column here, all_within c columns (λ a found. h a (or_right (column == a) (has columns a) found)))

module _ (c : ℕ) (small : c ≤ COLUMN_BOUND) (columns row : List ℕ) (names : Names c columns row) where
  named_within : AreWithin c columns
  named_within = all_within c columns (λ a found. row_within c row names.is_row a (sym (names.same a) ∙ found))

  row_named-line : row_named c (named_line columns) ≡ row
  row_named-line =
      ap (λ words. columns_among c (columns_named words)) (words_of-line c small columns named_within)
      ∙ ap (columns_among c) (columns_named-decimals c small columns named_within)
      ∙ columns_same c (has columns) (has row) (λ j lt. names.same (j + 1))
      ∙ columns_row c row names.is_row

  line_code-line : (before : ℕ) → before < MAX_ROWS → line_code c before (named_line columns) ≡ None
  line_code-line before few = line_taken c before (named_line columns) few (ap (words_code c) (words_of-line c small columns named_within) ∙ words_code-decimals c small columns named_within)

-- written bytes end no line
written_append : (xs ys : List ℕ) → AllByRecursion IsWritten xs → AllByRecursion IsWritten ys → AllByRecursion IsWritten (xs ++ ys)
written_append [] ys p q = q
written_append (x ∷ xs) ys p q = (p.0, written_append xs ys p.1 q)

written_digits : (bytes : List ℕ) → AllByRecursion IsDigit bytes → AllByRecursion IsWritten bytes
written_digits [] h = tt
written_digits (b ∷ bytes) h = (inr h.0, written_digits bytes h.1)

no_feed : (b : ℕ) → IsWritten b → (b == 10) ≡ false
no_feed b h = ne_eqb b 10 (λ e. elim h [ inl space ↦ omega (arith, e, space) | inr digit ↦ omega (arith, e, digit.0) ])

no_return : (b : ℕ) → IsWritten b → (b == 13) ≡ false
no_return b h = ne_eqb b 13 (λ e. elim h [ inl space ↦ omega (arith, e, space) | inr digit ↦ omega (arith, e, digit.0) ])

line_parts-written : (bytes rest : List ℕ) → AllByRecursion IsWritten bytes → line_parts (bytes ++ 10 ∷ rest) ≡ bytes ∷ line_parts rest
unfolding line_parts
line_parts-written [] rest h = refl
line_parts-written (b ∷ bytes) rest h = rw (no_feed b h.0, line_parts-written bytes rest h.1) refl

without_return-written : (bytes : List ℕ) → AllByRecursion IsWritten bytes → without_return bytes ≡ bytes
without_return-written [] h = refl
without_return-written (b ∷ []) h = rw (no_return b h.0) refl
without_return-written (b ∷ a ∷ bytes) h = ap (λ t. b ∷ t) (without_return-written (a ∷ bytes) h.1)

first_line_written : (bytes rest : List ℕ) → AllByRecursion IsWritten bytes → lines_of (bytes ++ 10 ∷ rest) ≡ bytes ∷ lines_of rest
first_line_written bytes rest h =
    ap (map strip_carriage_return) (line_parts-written bytes rest h) ∙ ap (λ line. line ∷ lines_of rest) (strip_is bytes ∙ without_return-written bytes h)

-- a text of bytes below 128 has no mark
without_mark-ascii : (bytes : List ℕ) → IsAscii bytes → without_mark bytes ≡ bytes
without_mark-ascii [] h = refl
without_mark-ascii (a ∷ []) h = refl
without_mark-ascii (a ∷ b ∷ []) h = refl
without_mark-ascii (a ∷ b ∷ c ∷ bytes) h = rw (ne_eqb a 239 (λ e. omega (arith, e, h 0))) refl

-- the text of rows
module _ (c : ℕ) (small : c ≤ COLUMN_BOUND) where
  spaced_written : (columns : List ℕ) → AreWithin c columns → AllByRecursion IsWritten (spaced columns) × IsAscii (spaced columns)
  spaced_written [] within = (tt, IsAscii-nil)
  spaced_written (column ∷ columns) within =
      let fits = small_enough c small column within.0.1 in
      let rest = spaced_written columns within.1 in (
        (inl refl, written_append (decimal column) (spaced columns) (written_digits (decimal column) (decimal_digits column fits)) rest.0),
        IsAscii-cons 32 (decimal column ++ spaced columns) (omega arith) (IsAscii-append (decimal column) (spaced columns) (IsAscii-decimal column fits) rest.1),
      )

  line_written : (columns : List ℕ) → AreWithin c columns → AllByRecursion IsWritten (named_line columns) × IsAscii (named_line columns)
  line_written [] within = (tt, IsAscii-nil)
  line_written (column ∷ columns) within =
      let fits = small_enough c small column within.0.1 in
      let rest = spaced_written columns within.1 in (
        written_append (decimal column) (spaced columns) (written_digits (decimal column) (decimal_digits column fits)) rest.0,
        IsAscii-append (decimal column) (spaced columns) (IsAscii-decimal column fits) rest.1,
      )

  text_ascii : (lists rows : List (List ℕ)) → NameAll c lists rows → IsAscii (named_text lists)
  text_ascii [] rows names = IsAscii-nil
  text_ascii (columns ∷ lists) [] names = absurd names
  text_ascii (columns ∷ lists) (row ∷ rows) names =
      IsAscii-append (named_line columns) (10 ∷ named_text lists) (line_written columns (named_within c small columns row names.0)).1 (IsAscii-cons 10 (named_text lists) (omega arith) (text_ascii lists rows names.1))

  lines_of-text : (lists rows : List (List ℕ)) → NameAll c lists rows → lines_of (named_text lists) ≡ map named_line lists
  unfolding line_parts
  lines_of-text [] rows names = refl
  lines_of-text (columns ∷ lists) [] names = absurd names
  lines_of-text (columns ∷ lists) (row ∷ rows) names =
      first_line_written (named_line columns) (named_text lists) (line_written columns (named_within c small columns row names.0)).0
      ∙ ap (λ lines. named_line columns ∷ lines) (lines_of-text lists rows names.1)

  first_refusal-text : (before number : ℕ) (lists rows : List (List ℕ)) → NameAll c lists rows → before + length rows ≤ MAX_ROWS → first_refusal (line_code c) before (numbered_lines number (map named_line lists)) ≡ None
  unfolding first_refusal numbered_lines
  first_refusal-text before number [] rows names few = refl
  first_refusal-text before number (columns ∷ lists) [] names few = absurd names
  first_refusal-text before number (columns ∷ lists) (row ∷ rows) names few =
      rw (line_code-line c small columns row names.0 before (omega arith)) (first_refusal-text (before + 1) (number + 1) lists rows names.1 (omega arith))

  rows-text : (number : ℕ) (lists rows : List (List ℕ)) → NameAll c lists rows → map (λ line. row_named c line.text) (numbered_lines number (map named_line lists)) ≡ rows
  unfolding numbered_lines
  rows-text number [] [] names = refl
  rows-text number [] (row ∷ rows) names = absurd names
  rows-text number (columns ∷ lists) [] names = absurd names
  rows-text number (columns ∷ lists) (row ∷ rows) names =
      ap (λ first. first ∷ map (λ (line : NumberedLine). row_named c line.text) (numbered_lines (number + 1) (map named_line lists))) (row_named-line c small columns row names.0)
      ∙ ap (λ later. row ∷ later) (rows-text (number + 1) lists rows names.1)

  named_rows-text : (number : ℕ) (lists rows : List (List ℕ)) → NameAll c lists rows → length rows ≤ MAX_ROWS → named_rows c (numbered_lines number (lines_of (named_text lists))) ≡ read.Ok (record { columns = c; rows = rows })
  named_rows-text number lists rows names few =
      ap (λ lines. named_rows c (numbered_lines number lines)) (lines_of-text lists rows names)
      ∙ ap (λ refusal. refused_or refusal (record { columns = c; rows = map (λ (line : NumberedLine). row_named c line.text) (numbered_lines number (map named_line lists)) })) (first_refusal-text 0 number lists rows names (omega arith))
      ∙ ap (λ read_so. read.Ok (record { columns = c; rows = read_so })) (rows-text number lists rows names)

pub further_law_holds : FurtherLaw
further_law_holds c lists rows small names few short =
    further_short (named_text lists) c short
    ∙ ap (λ text. named_rows c (numbered_lines 1 (lines_of text))) (without_mark-ascii (named_text lists) (text_ascii c small lists rows names))
    ∙ named_rows-text c small 1 lists rows names few

pub sparse_law_holds : SparseLaw
unfolding words_of
sparse_law_holds c lists rows some narrow names few short =
    let small : c ≤ COLUMN_BOUND = omega arith in
    let fits = small_enough c small c (omega arith) in
    let text = decimal c ++ 10 ∷ named_text lists in
    let ascii = IsAscii-append (decimal c) (10 ∷ named_text lists) (IsAscii-decimal c fits) (IsAscii-cons 10 (named_text lists) (omega arith) (text_ascii c small lists rows names)) in
    let word : words_of (decimal c) ≡ decimal c ∷ [] = ap words_of (sym (append-nil (decimal c))) ∙ word_before (decimal c) [] (decimal_nonempty c fits) (decimal_digits c fits) refl in
    let width : Ok c ≡ width_given (only_word (words_of (decimal c))) = sym (ap (λ words. width_given (only_word words)) word ∙ ap width_of_number (decimal_value c fits) ∙ rw (ne_eqb c 0 (λ e. omega (arith, e)), le-ltb MAX_COLUMNS c narrow) refl) in
    sparse_short text short
    ∙ ap (λ bytes. sparse_lines (numbered_lines 1 (lines_of bytes))) (without_mark-ascii text ascii)
    ∙ first_taken (decimal c) (lines_of text) (lines_of (named_text lists)) (first_line_written (decimal c) (named_text lists) (written_digits (decimal c) (decimal_digits c fits))) c width
    ∙ named_rows-text c small 2 lists rows names few
