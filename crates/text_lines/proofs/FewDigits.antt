-- Words that are few digits.
use Rattle.std.proofs.Common.{◌≡◌, ◌∙◌, ℕ, suc, ◌<◌, ◌≤◌, ◌+◌, ◌-◌, ◌*◌, ◌%◌, ◌^◌, List, [], ◌∷◌, ◌++◌, true, false, length, take, drop, get_or, slice_range, refl, sym, ap, arith, drop-cons, Bool, not}
use Rattle.std.proofs.lemmas.Bool.{and_parts}
use Rattle.std.proofs.lemmas.Bool.Decides.{nat_tests}
use Rattle.std.proofs.lemmas.Grind.{common_steps}
use Rattle.std.proofs.lemmas.List.{take-append-drop, drop-drop, length-take-le}
use Rattle.std.specs.Char.{is_ascii_digit}
use Rattle.std.specs.List.{list_all, list_any}
use Rattle.text_lines.specs.Lines.{is_blank_byte}
use Rattle.text_lines.specs.Words.{begins_word, words_of, number_after, numeral_of}
use Rattle.text_lines.specs.declared.words.Numeral.TheVariants.{Value}
use Rattle.text_lines.proofs.WordLemmas.{numeral_small, words_of_blank}
use Rattle.text_lines.proofs.TextLemmas.{word_before}

-- a digit is no blank
digit_filled : (b : ℕ) → is_ascii_digit b ≡ true → is_blank_byte b ≡ false
digit_filled b h = grind (arith, common_steps, nat_tests)

pub digits_filled : (word : List ℕ) → list_all is_ascii_digit word ≡ true → list_any is_blank_byte word ≡ false
digits_filled [] h = refl
digits_filled (b ∷ word) h =
    let parts = and_parts (is_ascii_digit b) (list_all is_ascii_digit word) h in
    rw (digit_filled b parts.0) (digits_filled word parts.1)

-- a small value does not wrap
pub value_fits : (v d : ℕ) → v * 10 + d < 2 ^ 64 → ((v * 10) % 2 ^ 64 + d) % 2 ^ 64 ≡ v * 10 + d
value_fits v d small = omega (arith, small)

-- a digit more at the end
number_after-append : (n : ℕ) (xs ys : List ℕ) → number_after n (xs ++ ys) ≡ number_after (number_after n xs) ys
number_after-append n [] ys = refl
number_after-append n (x ∷ xs) ys = number_after-append (n * 10 + (x - 48)) xs ys

list_all_more : (xs : List ℕ) (b : ℕ) → list_all is_ascii_digit xs ≡ true → is_ascii_digit b ≡ true → list_all is_ascii_digit (xs ++ b ∷ []) ≡ true
list_all_more [] b h d = rw d refl
list_all_more (x ∷ xs) b h d =
    let parts = and_parts (is_ascii_digit x) (list_all is_ascii_digit xs) h in
    rw parts.0 (list_all_more xs b parts.1 d)

-- the first digits of these bytes, and one more
module _ (bytes : List ℕ) (i : ℕ) (lt : i < length bytes) where
  first_more : take (i + 1) bytes ≡ take i bytes ++ get_or bytes i 0 ∷ []
  first_more = grind (arith, common_steps)

  pub digit_more : list_all is_ascii_digit (take i bytes) ≡ true → is_ascii_digit (get_or bytes i 0) ≡ true → list_all is_ascii_digit (take (i + 1) bytes) ≡ true
  digit_more h d = rw first_more (list_all_more (take i bytes) (get_or bytes i 0) h d)

  pub value_more : (v : ℕ) → v ≡ number_after 0 (take i bytes) → v * 10 + (get_or bytes i 0 - 48) ≡ number_after 0 (take (i + 1) bytes)
  value_more v is = rw (first_more, number_after-append 0 (take i bytes) (get_or bytes i 0 ∷ [])) (ap (λ n. n * 10 + (get_or bytes i 0 - 48)) is)

-- a blank at a place
pub words_past : (line : List ℕ) (at : ℕ) → at < length line → begins_word (drop at line) ≡ false → words_of (drop (at + 1) line) ≡ words_of (drop at line)
words_past line at lt apart =
    let next : at + 1 ≡ suc at = omega arith in
    let front : drop at line ≡ get_or line at 0 ∷ drop (suc at) line = drop-cons line at 0 lt in
    let blank : is_blank_byte (get_or line at 0) ≡ true = is_blank_of (is_blank_byte (get_or line at 0)) (rw front at apart) in
    ap (λ n. words_of (drop n line)) next ∙ sym (ap words_of front ∙ words_of_blank (get_or line at 0) (drop (suc at) line) blank)
  where
    is_blank_of : (b : Bool) → not b ≡ false → b ≡ true
    is_blank_of true h = refl
    is_blank_of false h = absurd (cc)

-- digits before bytes that begin no word
module _ (line bytes : List ℕ) (start len : ℕ) (from : bytes ≡ drop start line) (some : 1 ≤ len) (within : len ≤ length bytes) (digits : list_all is_ascii_digit (take len bytes) ≡ true) where
  digits_are : slice_range line start (start + len) ≡ take len bytes
  digits_are = let long : start + len - start ≡ len = omega arith in ap (λ n. take n (drop start line)) long ∙ ap (take len) (sym from)

  pub digits_word : begins_word (drop (start + len) line) ≡ false → words_of (drop start line) ≡ slice_range line start (start + len) ∷ words_of (drop (start + len) line)
  digits_word apart =
      let rest : drop len bytes ≡ drop (start + len) line = ap (drop len) from ∙ drop-drop len start line in
      ap words_of (sym from ∙ sym (take-append-drop len bytes))
      ∙ word_before (take len bytes) (drop len bytes) (omega (arith, length-take-le len bytes within)) (digits_filled (take len bytes) digits) (ap begins_word rest ∙ apart)
      ∙ ap (λ word. word ∷ words_of (drop len bytes)) (sym digits_are)
      ∙ ap (λ later. slice_range line start (start + len) ∷ words_of later) rest

  pub digits_numeral : (v : ℕ) → v ≡ number_after 0 (take len bytes) → v < 2 ^ 64 → Value v ≡ numeral_of (slice_range line start (start + len))
  digits_numeral v is small = rw digits_are (numeral_small (take len bytes) v (omega (arith, length-take-le len bytes within)) digits is small)
