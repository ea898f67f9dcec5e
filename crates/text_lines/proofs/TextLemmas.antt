-- Lines and words of texts.
use Rattle.std.proofs.Common.{◌≡◌, ◌≢◌, ◌∙◌, ℕ, ◌<◌, ◌≤◌, ◌+◌, ◌-◌, ◌==◌, true, false, not, List, [], ◌∷◌, ◌++◌, length, take, drop, map, slice_range, refl, sym, ap, arith, take-take}
use Rattle.std.proofs.lemmas.Bool.{ne_eqb, or_parts}
use Rattle.std.proofs.lemmas.List.{append-nil}
use Rattle.std.specs.List.{list_any, onto_first}
use Rattle.std.specs.Str.Lines.{strip_carriage_return}
use Rattle.column_order.specs.Orders.{has}
use Rattle.text_lines.specs.Lines.{is_blank_byte, without_return, line_parts, lines_of, is_blank, filled_lines}
use Rattle.text_lines.specs.Rows.{numbered_lines}
use Rattle.text_lines.specs.Words.{blank_len, word_len, begins_word, words_of}
use Rattle.text_lines.specs.TextLaws.{LinesOfTextLaw, LineNumbersLaw, WordsLaw}
use Rattle.text_lines.proofs.LineLemmas.{strip_is}
use Rattle.text_lines.proofs.WordLemmas.{words_of_blank, words_of_last, words_of_more, words_of_blanks, words_of_skip, word_first, drop-slice_range}

-- bytes without a line feed, and then a line feed
parts_feed : (line rest : List ℕ) → has line 10 ≡ false → line_parts (line ++ 10 ∷ rest) ≡ line ∷ line_parts rest
unfolding line_parts
parts_feed [] rest h = refl
parts_feed (b ∷ line) rest h =
    let parts = or_parts (b == 10) (has line 10) h in
    rw (parts.0, parts_feed line rest parts.1) refl

parts_last : (b : ℕ) (line : List ℕ) → has (b ∷ line) 10 ≡ false → line_parts (b ∷ line) ≡ (b ∷ line) ∷ []
unfolding line_parts
parts_last b [] h = rw (or_parts (b == 10) false h).0 refl
parts_last b (a ∷ line) h =
    let parts = or_parts (b == 10) (has (a ∷ line) 10) h in
    rw parts.0 (ap (onto_first b) (parts_last a line parts.1))

last_line : (line : List ℕ) → 1 ≤ length line → has line 10 ≡ false → lines_of line ≡ without_return line ∷ []
last_line [] some h = absurd (omega arith)
last_line (b ∷ line) some h = ap (map strip_carriage_return) (parts_last b line h) ∙ ap (λ l. l ∷ []) (strip_is (b ∷ line))

no_parts : line_parts [] ≡ []
unfolding line_parts
no_parts = refl

return_dropped : (line : List ℕ) → without_return (line ++ 13 ∷ []) ≡ line
return_dropped [] = refl
return_dropped (b ∷ []) = refl
return_dropped (b ∷ a ∷ line) = ap (λ t. b ∷ t) (return_dropped (a ∷ line))

return_none : (line : List ℕ) (b : ℕ) → b ≢ 13 → without_return (line ++ b ∷ []) ≡ line ++ b ∷ []
return_none [] b other = rw (ne_eqb b 13 other) refl
return_none (a ∷ []) b other = ap (λ t. a ∷ t) (return_none [] b other)
return_none (a ∷ d ∷ line) b other = ap (λ t. a ∷ t) (return_none (d ∷ line) b other)

pub lines_law : LinesOfTextLaw
lines_law = record {
  none = ap (map strip_carriage_return) no_parts;
  feed = λ line rest h. ap (map strip_carriage_return) (parts_feed line rest h) ∙ ap (λ l. l ∷ lines_of rest) (strip_is line);
  last = last_line;
  return_nothing = refl;
  return_dropped = return_dropped;
  return_none = return_none;
}

pub line_numbers_law : LineNumbersLaw
unfolding filled_lines numbered_lines
line_numbers_law = record {
  all_none = λ number. refl;
  all_line = λ number line lines. refl;
  filled_none = λ number. refl;
  filled_blank = λ number line lines h. rw h refl;
  filled_line = λ number line lines h. rw h refl;
}

-- a word before bytes that begin none
pub word_before : (word rest : List ℕ) → 1 ≤ length word → list_any is_blank_byte word ≡ false → begins_word rest ≡ false → words_of (word ++ rest) ≡ word ∷ words_of rest
word_before [] rest some h apart = absurd (omega arith)
word_before (b ∷ []) rest some h apart = words_of_last b rest (or_parts (is_blank_byte b) false h).0 apart
word_before (b ∷ a ∷ word) rest some h apart =
    let parts = or_parts (is_blank_byte b) (list_any is_blank_byte (a ∷ word)) h in
    let next = or_parts (is_blank_byte a) (list_any is_blank_byte word) parts.1 in
    words_of_more b (a ∷ (word ++ rest)) parts.0 (ap not next.0)
    ∙ ap (onto_first b) (word_before (a ∷ word) rest (omega arith) parts.1 apart)

pub no_words : words_of [] ≡ []
unfolding words_of
no_words = refl

pub words_law : WordsLaw
words_law = record {
  none = no_words;
  blank = λ b line h. words_of_blank b line h;
  word = λ word rest b some h blank. word_before word (b ∷ rest) some h (ap not blank) ∙ ap (λ words. word ∷ words) (words_of_blank b rest blank);
  last = λ word some h. ap words_of (sym (append-nil word)) ∙ word_before word [] some h refl ∙ ap (λ words. word ∷ words) no_words;
}

-- the words between two places: the one that stands first, and those from its end on
module _ (bytes : List ℕ) (at end start stop : ℕ) (order : at ≤ end) (within : end ≤ length bytes) (s : start ≡ at + blank_len (slice_range bytes at end))
    (e : stop ≡ start + word_len (slice_range bytes start end)) (lt : start < stop) (le : stop ≤ end) where
  pub words_step : words_of (slice_range bytes at end) ≡ slice_range bytes start stop ∷ words_of (slice_range bytes stop end)
  words_step =
      let k = blank_len (slice_range bytes at end) in
      let n = word_len (slice_range bytes start end) in
      let len : stop - start ≡ n = omega (arith, e) in
      let word : slice_range bytes start stop ≡ take n (slice_range bytes start end) =
      ap (λ m. take m (drop start bytes)) len ∙ sym (take-take n (end - start) (drop start bytes) (omega (arith, e))) in
      let later : drop n (slice_range bytes start end) ≡ slice_range bytes stop end =
      drop-slice_range bytes start end n (omega (arith, e)) ∙ ap (λ m. slice_range bytes m end) (sym e) in
      words_of_skip (slice_range bytes at end)
      ∙ ap words_of (drop-slice_range bytes at end k (omega (arith, s)) ∙ ap (λ m. slice_range bytes m end) (sym s))
      ∙ word_first (slice_range bytes start end) (omega (arith, e))
      ∙ ap (λ w. w ∷ words_of (drop n (slice_range bytes start end))) (sym word)
      ∙ ap (λ rest. slice_range bytes start stop ∷ words_of rest) later

pub words_none : (bytes : List ℕ) (at end : ℕ) → is_blank (slice_range bytes at end) ≡ true → words_of (slice_range bytes at end) ≡ []
words_none bytes at end h = words_of_blanks (slice_range bytes at end) h
