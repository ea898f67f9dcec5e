-- Lines of digits, with one space between two runs of them and a line feed behind the last.
use Rattle.std.proofs.Common.{◌≡◌, ◌∙◌, ℕ, suc, ◌<◌, ◌≤◌, ◌+◌, ◌-◌, ◌*◌, ◌^◌, ◌==◌, List, [], ◌∷◌, ◌++◌, true, false, length, take, drop, map, min, get_or, slice_range, refl, sym, ap, arith, inl, inr}
use Rattle.std.proofs.lemmas.Bool.{and_parts, cases_eq}
use Rattle.std.proofs.lemmas.Bool.Decides.{nat_tests}
use Rattle.std.proofs.lemmas.Grind.{common_steps}
use Rattle.std.proofs.lemmas.List.{get_or-drop, drop_more, length-drop}
use Rattle.std.proofs.lemmas.List.Folds.{drop_split}
use Rattle.std.specs.Char.{is_ascii_digit}
use Rattle.std.specs.List.{list_all}
use Rattle.text_lines.specs.Lines.{line_len, first_line, without_return, lines_of, is_blank}
use Rattle.text_lines.specs.Words.{words_of, number_after, numeral_of, IsFirstNumber}
use Rattle.text_lines.specs.declared.words.Numeral.TheVariants.{Value}
use Rattle.text_lines.proofs.LineLemmas.{lines_split, rest_is}
use Rattle.text_lines.proofs.WordLemmas.{length-slice_range, words_of_blank, words_of_blanks, numeral_small}
use Rattle.text_lines.proofs.TextLemmas.{word_before, no_words}
use Rattle.text_lines.proofs.FewDigits.{digits_filled, digit_more, value_more}

-- a digit is no line feed and no carriage return
digit_apart : (b : ℕ) → is_ascii_digit b ≡ true → ((b == 10) ≡ false) × ((b == 13) ≡ false)
digit_apart b h = (grind (arith, common_steps, nat_tests), grind (arith, common_steps, nat_tests))

-- digits before other bytes
first_line-digits : (digits rest : List ℕ) → list_all is_ascii_digit digits ≡ true → first_line (digits ++ rest) ≡ digits ++ first_line rest
first_line-digits [] rest h = refl
first_line-digits (b ∷ digits) rest h =
    let parts = and_parts (is_ascii_digit b) (list_all is_ascii_digit digits) h in
    rw (digit_apart b parts.0).0 (ap (λ line. b ∷ line) (first_line-digits digits rest parts.1))

line_len-digits : (digits rest : List ℕ) → list_all is_ascii_digit digits ≡ true → line_len (digits ++ rest) ≡ length digits + line_len rest
line_len-digits [] rest h = omega arith
line_len-digits (b ∷ digits) rest h =
    let parts = and_parts (is_ascii_digit b) (list_all is_ascii_digit digits) h in
    rw (digit_apart b parts.0).0 (omega (arith, line_len-digits digits rest parts.1))

-- a byte other than a carriage return before a line that has none to lose
return_behind : (b : ℕ) (line : List ℕ) → (b == 13) ≡ false → without_return line ≡ line → without_return (b ∷ line) ≡ b ∷ line
return_behind b [] other h = rw other refl
return_behind b (a ∷ line) other h = ap (λ t. b ∷ t) h

without_return-digits : (digits line : List ℕ) → list_all is_ascii_digit digits ≡ true → without_return line ≡ line → without_return (digits ++ line) ≡ digits ++ line
without_return-digits [] line h kept = kept
without_return-digits (b ∷ digits) line h kept =
    let parts = and_parts (is_ascii_digit b) (list_all is_ascii_digit digits) h in
    return_behind b (digits ++ line) (digit_apart b parts.0).1 (without_return-digits digits line parts.1 kept)

-- one digit more between two places
module _ (text : List ℕ) (at i : ℕ) (order : at ≤ i) (lt : i < length text) where
  digits_longer : i + 1 - at ≡ i - at + 1
  digits_longer = omega arith

  next_is : get_or (drop at text) (i - at) 0 ≡ get_or text i 0
  next_is = let back : at + (i - at) ≡ i = omega arith in get_or-drop at text (i - at) 0 ∙ ap (λ k. get_or text k 0) back

  next_within : i - at < length (drop at text)
  next_within = omega (arith, length-drop at text)

  pub digit_between : list_all is_ascii_digit (slice_range text at i) ≡ true → is_ascii_digit (get_or text i 0) ≡ true → list_all is_ascii_digit (slice_range text at (i + 1)) ≡ true
  digit_between h d =
      ap (λ n. list_all is_ascii_digit (take n (drop at text))) digits_longer
      ∙ digit_more (drop at text) (i - at) next_within h (ap is_ascii_digit next_is ∙ d)

  pub value_between : (v : ℕ) → v ≡ number_after 0 (slice_range text at i) → v * 10 + (get_or text i 0 - 48) ≡ number_after 0 (slice_range text at (i + 1))
  value_between v is =
      ap (λ b. v * 10 + (b - 48)) (sym next_is)
      ∙ value_more (drop at text) (i - at) next_within v is
      ∙ ap (λ n. number_after 0 (take n (drop at text))) (sym digits_longer)

-- digits that write a number other than 0
pub some_digits : (text : List ℕ) (at end v : ℕ) → at ≤ end → v ≡ number_after 0 (slice_range text at end) → 0 < v → at < end
some_digits text at end v order is some =
    elim (cases_eq at end) [
      | inl same ↦
          let none : end - at ≡ 0 = omega arith in
          let zero : v ≡ 0 = is ∙ ap (λ n. number_after 0 (take n (drop at text))) none in
          absurd (omega arith)
      | inr other ↦ omega arith
    ]

-- digits from a place on, and a byte behind them
module _ (text : List ℕ) (at end : ℕ) (order : at ≤ end) (lt : end < length text) (digits : list_all is_ascii_digit (slice_range text at end) ≡ true) where
  length_run : length (slice_range text at end) ≡ end - at
  length_run = length-slice_range text at end order (omega arith)

  digits_split : (b : ℕ) → get_or text end 0 ≡ b → drop at text ≡ slice_range text at end ++ b ∷ drop (end + 1) text
  digits_split b is = drop_split text at end order ∙ ap (λ rest. slice_range text at end ++ rest) (drop_more text end 0 lt ∙ ap (λ byte. byte ∷ drop (end + 1) text) is)

  -- a space
  module _ (is : get_or text end 0 ≡ 32) where
    space_line : first_line (drop at text) ≡ slice_range text at end ++ 32 ∷ first_line (drop (end + 1) text)
    space_line = ap first_line (digits_split 32 is) ∙ first_line-digits (slice_range text at end) (32 ∷ drop (end + 1) text) digits

    pub space_len : at + line_len (drop at text) ≡ end + 1 + line_len (drop (end + 1) text)
    space_len =
        let long : line_len (drop at text) ≡ length (slice_range text at end) + suc (line_len (drop (end + 1) text)) =
        ap line_len (digits_split 32 is) ∙ line_len-digits (slice_range text at end) (32 ∷ drop (end + 1) text) digits in
        omega (arith, long, length_run)

    pub space_return : without_return (first_line (drop (end + 1) text)) ≡ first_line (drop (end + 1) text) → without_return (first_line (drop at text)) ≡ first_line (drop at text)
    space_return kept =
        ap without_return space_line
        ∙ without_return-digits (slice_range text at end) (32 ∷ first_line (drop (end + 1) text)) digits (return_behind 32 (first_line (drop (end + 1) text)) refl kept)
        ∙ sym space_line

    pub space_number : (v : ℕ) → v ≡ number_after 0 (slice_range text at end) → v < 2 ^ 64 → at < end → IsFirstNumber (words_of (first_line (drop at text))) (Value v) (words_of (first_line (drop (end + 1) text)))
    space_number v value small some = record {
      word = slice_range text at end;
      is = ap words_of space_line
          ∙ word_before (slice_range text at end) (32 ∷ first_line (drop (end + 1) text)) (omega (arith, length_run)) (digits_filled (slice_range text at end) digits) refl
          ∙ ap (λ words. slice_range text at end ∷ words) (words_of_blank 32 (first_line (drop (end + 1) text)) refl);
      writes = numeral_small (slice_range text at end) v (omega (arith, length_run)) digits value small;
    }

  -- a line feed
  module _ (is : get_or text end 0 ≡ 10) where
    feed_line : first_line (drop at text) ≡ slice_range text at end ++ []
    feed_line = ap first_line (digits_split 10 is) ∙ first_line-digits (slice_range text at end) (10 ∷ drop (end + 1) text) digits

    pub feed_len : at + line_len (drop at text) ≡ end
    feed_len =
        let long : line_len (drop at text) ≡ length (slice_range text at end) + 0 =
        ap line_len (digits_split 10 is) ∙ line_len-digits (slice_range text at end) (10 ∷ drop (end + 1) text) digits in
        omega (arith, long, length_run)

    pub feed_return : without_return (first_line (drop at text)) ≡ first_line (drop at text)
    feed_return = ap without_return feed_line ∙ without_return-digits (slice_range text at end) [] digits refl ∙ sym feed_line

    pub feed_number : (v : ℕ) → v ≡ number_after 0 (slice_range text at end) → v < 2 ^ 64 → at < end → IsFirstNumber (words_of (first_line (drop at text))) (Value v) (words_of [])
    feed_number v value small some = record {
      word = slice_range text at end;
      is = ap words_of feed_line
          ∙ word_before (slice_range text at end) [] (omega (arith, length_run)) (digits_filled (slice_range text at end) digits) refl;
      writes = numeral_small (slice_range text at end) v (omega (arith, length_run)) digits value small;
    }

-- the line that ends before a line feed, and the lines behind it
pub lines_behind : (text : List ℕ) (at next : ℕ) → at + line_len (drop at text) + 1 ≡ next → next ≤ length text
    → lines_of (drop at text) ≡ without_return (first_line (drop at text)) ∷ lines_of (drop next text)
lines_behind text at next is within =
    let len : ℕ = line_len (drop at text) in
    let capped : next ≡ min (at + len + 1) (length text) = omega arith in
    lines_split text at (omega arith)
    ∙ ap (λ rest. without_return (first_line (drop at text)) ∷ lines_of rest) (rest_is text at next len capped)

-- a line with a word is not blank
word_filled : (line word : List ℕ) (words : List (List ℕ)) → words_of line ≡ word ∷ words → is_blank line ≡ false
word_filled line word words is =
    elim (is_blank line) as (λ v. is_blank line ≡ v → v ≡ false) [
      | true ↦ λ blank. let none : words_of line ≡ [] = words_of_blanks line blank in absurd (cc)
      | false ↦ λ filled. refl
    ] refl

-- two runs of digits with a space between them, and a line feed
module _ (text : List ℕ) (at middle end : ℕ) (some : at < middle) (more : middle + 1 < end) (lt : end < length text)
    (digits : list_all is_ascii_digit (slice_range text at middle) ≡ true) (further : list_all is_ascii_digit (slice_range text (middle + 1) end) ≡ true)
    (space : get_or text middle 0 ≡ 32) (feed : get_or text end 0 ≡ 10)
    (v w : ℕ) (first : v ≡ number_after 0 (slice_range text at middle)) (second : w ≡ number_after 0 (slice_range text (middle + 1) end)) (small : v < 2 ^ 64) (small2 : w < 2 ^ 64) where
  pair_len : at + line_len (drop at text) ≡ end
  pair_len = space_len text at middle (omega arith) (omega arith) digits space ∙ feed_len text (middle + 1) end (omega arith) lt further feed

  pair_text : slice_range text at (end + 1 - 1) ≡ first_line (drop at text)
  pair_text = let len : end + 1 - 1 - at ≡ line_len (drop at text) = omega (arith, pair_len) in ap (λ n. take n (drop at text)) len

  first_number : IsFirstNumber (words_of (first_line (drop at text))) (Value v) (words_of (first_line (drop (middle + 1) text)))
  first_number = space_number text at middle (omega arith) (omega arith) digits space v first small some

  second_number : IsFirstNumber (words_of (first_line (drop (middle + 1) text))) (Value w) (words_of [])
  second_number = feed_number text (middle + 1) end (omega arith) lt further feed w second small2 more

  numbers : map numeral_of (words_of (slice_range text at (end + 1 - 1))) ≡ Value v ∷ Value w ∷ []
  numbers =
      ap (λ line. map numeral_of (words_of line)) pair_text
      ∙ ap (map numeral_of) (first_number.is ∙ ap (λ words. first_number.word ∷ words) (second_number.is ∙ ap (λ words. second_number.word ∷ words) no_words))
      ∙ ap (λ number. number ∷ numeral_of second_number.word ∷ []) (sym first_number.writes)
      ∙ ap (λ number. Value v ∷ number ∷ []) (sym second_number.writes)

  lines : lines_of (drop at text) ≡ slice_range text at (end + 1 - 1) ∷ lines_of (drop (end + 1) text)
  lines =
      let whole : without_return (first_line (drop at text)) ≡ slice_range text at (end + 1 - 1) =
      space_return text at middle (omega arith) (omega arith) digits space (feed_return text (middle + 1) end (omega arith) lt further feed) ∙ sym pair_text in
      lines_behind text at (end + 1) (ap (λ n. n + 1) pair_len) (omega arith) ∙ ap (λ line. line ∷ lines_of (drop (end + 1) text)) whole

  -- they are a line, and it has these two numbers
  pub record IsPairLine : Type 0 where
    pub lines : lines_of (drop at text) ≡ slice_range text at (end + 1 - 1) ∷ lines_of (drop (end + 1) text)
    pub filled : is_blank (slice_range text at (end + 1 - 1)) ≡ false
    pub numbers : map numeral_of (words_of (slice_range text at (end + 1 - 1))) ≡ Value v ∷ Value w ∷ []

  pub pair_line : IsPairLine
  pair_line = record {
    lines = lines;
    filled = ap is_blank pair_text ∙ word_filled (first_line (drop at text)) first_number.word _ first_number.is;
    numbers = numbers;
  }
