-- Rows that name their columns.
use Rattle.std.proofs.Common.{◌≡◌, ℕ, arith, ◌<◌, ◌≤◌, ◌+◌, ◌||◌, List, [], ◌∷◌, ◌++◌, length, map, take, set, append_assoc, length-append, slice_range, refl, sym, ap, ◌∙◌, Bool, true, false, Option, None, Some, Ok, Err}
use Rattle.std.proofs.lemmas.Bool.{lt-leb}
use Rattle.std.proofs.lemmas.Bool.Decides.{nat_tests}
use Rattle.std.proofs.lemmas.Grind.{common_steps}
use Rattle.std.proofs.lemmas.List.{take_more_set}
use Rattle.column_order.specs.Orders.{has}
use Rattle.row_model.specs.Rows.{RowList, IsRow}
use Rattle.row_model.specs.declared.refusal.Read.TheVariants as read
use Rattle.row_model.specs.declared.TheConstants.{MAX_COLUMNS, MAX_ROWS, MAX_FILE_BYTES}
use Rattle.row_model.specs.declared.code.TheConstants.{GRAMMAR, LIMIT}
use Rattle.text_lines.specs.Heads.{size_given, from_head}
use Rattle.text_lines.specs.Lines.{is_blank, lines_of, without_mark, NumberedLine}
use Rattle.text_lines.specs.Words.{words_of, blank_len, word_len, number_of, numbers_in, IsFirstNumber}
use Rattle.matrix_read.specs.SparseSteps.{only_word, width_of_number, width_given, row_named, columns_named, rows_behind, sparse_lines}
use Rattle.text_lines.specs.declared.words.Numeral.{Numeral}
use Rattle.text_lines.specs.declared.words.Numeral.TheVariants.{Value}
use Rattle.matrix_read.specs.Sparse.{column_code, words_code, line_code, named_rows, sparse, further}
use Rattle.matrix_read.specs.RowsThen.{answer_after, rows_then}
use Rattle.matrix_read.proofs.RowLemmas.{line_stop, line_step, answer_end}
use Rattle.text_lines.proofs.FirstRefused.{numbered_none}
use Rattle.text_lines.specs.Rows.{numbered_lines}
use Rattle.text_lines.proofs.WordLemmas.{word_step, no_word, number_some, number_written}
use Rattle.row_model.proofs.Filtered.{filtered_row}
use Rattle.row_model.proofs.RowLemmas.{row_where}
use Rattle.row_model.proofs.Limits.{too_long, short_enough}

-- the columns of a row ascend
pub row_ascends : (c : ℕ) (line : List ℕ) → IsRow c (row_named c line)
row_ascends c line = filtered_row (has (columns_named (words_of line))) c

-- a line with one word alone
pub one_word : (line : List ℕ) (start end : ℕ) → start ≡ 0 + blank_len (slice_range line 0 (length line)) → end ≡ start + word_len (slice_range line start (length line)) → start < end
    → is_blank (slice_range line end (length line)) ≡ true → words_of line ≡ slice_range line start end ∷ []
one_word line start end s e lt blank = word_step line 0 start end s e lt ∙ ap (λ words. slice_range line start end ∷ words) (no_word line end blank)

-- a line with two words or more
pub more_words : (line : List ℕ) (start end start2 end2 : ℕ) → start ≡ 0 + blank_len (slice_range line 0 (length line)) → end ≡ start + word_len (slice_range line start (length line)) → start < end
    → start2 ≡ end + blank_len (slice_range line end (length line)) → end2 ≡ start2 + word_len (slice_range line start2 (length line)) → start2 < end2
    → None ≡ only_word (words_of line)
more_words line start end start2 end2 s e lt s2 e2 lt2 =
    sym (ap only_word (word_step line 0 start end s e lt ∙ ap (λ words. slice_range line start end ∷ words) (word_step line end start2 end2 s2 e2 lt2)))

-- the words of a line one by one
module _ (c : ℕ) (words rest : List (List ℕ)) (word : List ℕ) (is : words ≡ word ∷ rest) where
  pub words_stop : (code : ℕ) → column_code c (number_of word) ≡ Some code → words_code c words ≡ Some code
  unfolding words_code
  words_stop code h = rw (is, h) refl

  pub words_next : column_code c (number_of word) ≡ None → words_code c rest ≡ words_code c words
  unfolding words_code
  words_next h = rw (is, h) refl

pub words_end : (c : ℕ) (words : List (List ℕ)) → words ≡ [] → words_code c words ≡ None
unfolding words_code
words_end c words is = rw is refl

-- a word that writes a column
module _ (c : ℕ) (words later : List (List ℕ)) (number : Numeral) (first : IsFirstNumber words number later) (n : ℕ) (is : number ≡ Value n) (low : 1 ≤ n) (high : n ≤ c) where
  writes_column : number_of first.word ≡ Some n
  writes_column = number_some (number_of first.word) n (sym is ∙ first.writes)

  pub code_behind : words_code c later ≡ words_code c words
  code_behind = words_next c words later first.word first.is (ap (column_code c) writes_column ∙ taken)
    where
      taken : column_code c (Some n) ≡ None
      taken = grind (arith, common_steps, nat_tests)

  pub columns_behind : n ∷ columns_named later ≡ columns_named words
  columns_behind = ap (λ k. k ∷ columns_named later) (sym (number_written first.word n writes_column)) ∙ ap columns_named (sym first.is)

-- ascending columns that a line names are its row
pub row_listed : (c : ℕ) (line row : List ℕ) → row ≡ columns_named (words_of line) → IsRow c row → row ≡ row_named c line
row_listed c line row is ascends = row_where c row (has (columns_named (words_of line))) ascends (λ a l u. ap (λ (xs : List ℕ). has xs a) is)

-- one column more at the front of `columns`
pub one_more_column : (columns row : List ℕ) (ones n : ℕ) → ones < length columns → take (ones + 1) (set columns ones n) ++ row ≡ take ones columns ++ (n ∷ row)
one_more_column columns row ones n room = ap (λ (front : List ℕ). front ++ row) (take_more_set columns ones n room) ∙ append_assoc (take ones columns) (n ∷ []) row

-- no mark is left to be made
pub marks_end : (mark named : Bool) (words : List (List ℕ)) (column : ℕ) → words ≡ [] → (mark || has (columns_named words) column) ≡ named → mark ≡ named
marks_end true named words column is h = h
marks_end false named words column is h = rw is at h

-- the first line, and the lines behind it
width_same : (words : List (List ℕ)) → width_given (only_word words) ≡ size_given MAX_COLUMNS (map number_of words)
width_same [] = refl
width_same (word ∷ []) = by (number_of word)
  where
    by : (number : Option ℕ) → width_of_number number ≡ size_given MAX_COLUMNS (number ∷ [])
    by None = refl
    by (Some n) = refl
width_same (word ∷ other ∷ words) = by (number_of word)
  where
    by : (number : Option ℕ) → Err GRAMMAR ≡ size_given MAX_COLUMNS (number ∷ number_of other ∷ map number_of words)
    by None = refl
    by (Some n) = refl

pub sparse_lines_same : (lines : List NumberedLine) → from_head (λ line. size_given MAX_COLUMNS (numbers_in line)) named_rows lines ≡ sparse_lines lines
sparse_lines_same [] = refl
sparse_lines_same (first ∷ lines) = ap (λ width. rows_behind first.number width lines) (sym (width_same (words_of first.text)))

-- the length of the file comes first
module _ (bytes : List ℕ) where
  pub sparse_long : MAX_FILE_BYTES < length bytes → sparse bytes ≡ read.Refused (record { code = LIMIT; line = 0 })
  unfolding sparse
  sparse_long h = too_long bytes _ h

  pub sparse_short : length bytes ≤ MAX_FILE_BYTES → sparse bytes ≡ sparse_lines (numbered_lines 1 (lines_of (without_mark bytes)))
  unfolding sparse
  sparse_short h = short_enough bytes _ h ∙ sparse_lines_same (numbered_lines 1 (lines_of (without_mark bytes)))

  pub sparse_text : (text : List ℕ) → length bytes ≤ MAX_FILE_BYTES → text ≡ without_mark bytes → sparse bytes ≡ sparse_lines (numbered_lines 1 (lines_of text))
  sparse_text text h is = sparse_short h ∙ ap (λ t. sparse_lines (numbered_lines 1 (lines_of t))) (sym is)

  pub further_long : (c : ℕ) → MAX_FILE_BYTES < length bytes → further c bytes ≡ read.Refused (record { code = LIMIT; line = 0 })
  unfolding further
  further_long c h = too_long bytes _ h

  pub further_short : (c : ℕ) → length bytes ≤ MAX_FILE_BYTES → further c bytes ≡ named_rows c (numbered_lines 1 (lines_of (without_mark bytes)))
  unfolding further
  further_short c h = short_enough bytes _ h

-- a line that is a row
pub line_taken : (c before : ℕ) (line : List ℕ) → before < MAX_ROWS → words_code c (words_of line) ≡ None → line_code c before line ≡ None
line_taken c before line few named = rw (lt-leb MAX_ROWS before few) named

pub few_before : (c before : ℕ) (line : List ℕ) → line_code c before line ≡ None → before < MAX_ROWS
few_before c before line h = grind (arith, common_steps, nat_tests)

-- rows and the lines behind them, of which the first is refused or a row
module _ (passed : ℕ) (m : RowList) (line : List ℕ) (lines later : List (List ℕ)) (is : lines ≡ line ∷ later) where
  pub then_stop : (code : ℕ) → line_code m.columns (length m.rows) line ≡ Some code → rows_then passed m lines ≡ read.Refused (record { code = code; line = passed + length m.rows + 1 })
  then_stop code h = line_stop (line_code m.columns) (row_named m.columns) m.columns m.rows (passed + length m.rows + 1) line lines later is code h

  pub then_step : (pushed : RowList) → pushed ≡ record { columns = m.columns; rows = m.rows ++ row_named m.columns line ∷ [] } → line_code m.columns (length m.rows) line ≡ None
      → rows_then passed pushed later ≡ rows_then passed m lines
  then_step pushed row h =
      let number : passed + length (m.rows ++ row_named m.columns line ∷ []) + 1 ≡ passed + length m.rows + 1 + 1 = omega (arith, length-append m.rows (row_named m.columns line ∷ [])) in
      ap (λ (x : RowList). rows_then passed x later) row
      ∙ ap (λ n. answer_after (line_code m.columns) (row_named m.columns) m.columns (m.rows ++ row_named m.columns line ∷ []) (numbered_lines n later)) number
      ∙ line_step (line_code m.columns) (row_named m.columns) m.columns m.rows (passed + length m.rows + 1) line lines later is h

pub then_end : (passed : ℕ) (m : RowList) → rows_then passed m [] ≡ read.Ok m
then_end passed m = answer_end (line_code m.columns) (row_named m.columns) m.columns m _ (numbered_none (passed + length m.rows + 1) [] refl) refl

pub then_none : (passed : ℕ) (m : RowList) (c : ℕ) (lines : List (List ℕ)) → m ≡ record { columns = c; rows = [] } → rows_then passed m lines ≡ named_rows c (numbered_lines (passed + 1) lines)
then_none passed m c lines is =
    let number : passed + 0 + 1 ≡ passed + 1 = omega arith in
    ap (λ (x : RowList). rows_then passed x lines) is ∙ ap (λ n. named_rows c (numbered_lines n lines)) number

-- the first line of all
module _ (line : List ℕ) (lines later : List (List ℕ)) (is : lines ≡ line ∷ later) where
  pub first_refused : (code : ℕ) → Err code ≡ width_given (only_word (words_of line)) → sparse_lines (numbered_lines 1 lines) ≡ read.Refused (record { code = code; line = 1 })
  unfolding numbered_lines
  first_refused code e = rw (is, ← e) refl

  pub first_taken : (c : ℕ) → Ok c ≡ width_given (only_word (words_of line)) → sparse_lines (numbered_lines 1 lines) ≡ named_rows c (numbered_lines 2 later)
  unfolding numbered_lines
  first_taken c e = rw (is, ← e) refl
