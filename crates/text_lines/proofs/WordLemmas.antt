-- Words, and the numbers that they write.
use Rattle.std.proofs.Common.{◌≡◌, ℕ, suc, ◌<◌, ◌≤◌, ◌+◌, ◌-◌, ◌*◌, ◌^◌, List, [], ◌∷◌, length, take, drop, slice_range, ap, sym, ◌∙◌, refl, arith, true, false, if◌then◌else◌, ◌==◌, ◌&&◌, not, get_or, nat_lt, Bool, Option, Some, None, drop-cons}
use Rattle.std.proofs.Math.ListN.{drop_of_length-le}
use Rattle.std.proofs.lemmas.List.{drop-take, drop-drop, length-take-le, length-drop}
use Rattle.std.proofs.lemmas.Bool.{lt-ltb, le-ltb, ne_eqb, and_parts}
use Rattle.std.proofs.lemmas.Grind.{common_steps}
use Rattle.std.proofs.lemmas.Bool.Decides.{nat_tests}
use Rattle.std.proofs.lemmas.Nat.{pow-add}
use Rattle.std.proofs.Math.Pow.{pow_mono}
use Rattle.std.specs.List.{list_all, filter, onto_first, slice_split}
use Rattle.std.specs.Char.{is_ascii_digit}
use Rattle.text_lines.specs.Lines.{is_blank, is_blank_byte}
use Rattle.text_lines.specs.Words.{blank_len, word_len, begins_word, words_of, number_after, number_of, numeral, numeral_of}
use Rattle.text_lines.specs.declared.words.Numeral.TheVariants.{Value, TooLarge, NotDigits}

-- all bytes are blanks, or a word begins behind the blanks
pub all_blank : (bytes : List ℕ) → blank_len bytes ≡ length bytes → is_blank bytes ≡ true
all_blank [] h = refl
all_blank (b ∷ bytes) h =
    (elim (is_blank_byte b) as (λ v. (if v then suc (blank_len bytes) else 0) ≡ suc (length bytes) → (v && is_blank bytes) ≡ true) [
      | true ↦ λ h. all_blank bytes (omega arith)
      | false ↦ λ h. absurd (omega arith)
    ]) h

pub some_filled : (bytes : List ℕ) → blank_len bytes < length bytes → is_blank bytes ≡ false
some_filled [] h = absurd (omega arith)
some_filled (b ∷ bytes) h =
    (elim (is_blank_byte b) as (λ v. (if v then suc (blank_len bytes) else 0) < suc (length bytes) → (v && is_blank bytes) ≡ false) [
      | true ↦ λ h. some_filled bytes (omega arith)
      | false ↦ λ h. refl
    ]) h

word_some : (bytes : List ℕ) → blank_len bytes < length bytes → 0 < word_len (drop (blank_len bytes) bytes)
word_some [] h = absurd (omega arith)
word_some (b ∷ bytes) h =
    (elim (is_blank_byte b) as (λ v. (if v then suc (blank_len bytes) else 0) < suc (length bytes) → is_blank_byte b ≡ v → 0 < word_len (drop (if v then suc (blank_len bytes) else 0) (b ∷ bytes))) [
      | true ↦ λ h e. word_some bytes (omega arith)
      | false ↦ λ h e. rw e (omega arith)
    ]) h refl

pub length-slice_range : (bytes : List ℕ) (at end : ℕ) → at ≤ end → end ≤ length bytes → length (slice_range bytes at end) ≡ end - at
length-slice_range bytes at end a b = length-take-le (end - at) (drop at bytes) (omega (arith, length-drop at bytes))

pub drop-slice_range : (bytes : List ℕ) (at end k : ℕ) → at + k ≤ end → drop k (slice_range bytes at end) ≡ slice_range bytes (at + k) end
drop-slice_range bytes at end k le =
    let whole : end - at ≡ k + (end - (at + k)) = omega arith in
    ap (λ n. drop k (take n (drop at bytes))) whole ∙ drop-take k (end - (at + k)) (drop at bytes) ∙ ap (take (end - (at + k))) (drop-drop k at bytes)

-- the blanks between a place and an end
module _ (bytes : List ℕ) (at end k : ℕ) (order : at ≤ end) (within : end ≤ length bytes) (is : k ≡ blank_len (slice_range bytes at end)) where
  pub none_left : at + k ≡ end → is_blank (slice_range bytes at end) ≡ true
  none_left h = all_blank (slice_range bytes at end) (omega (arith, length-slice_range bytes at end order within))

  pub one_left : at + k < end → is_blank (slice_range bytes at end) ≡ false
  one_left h = some_filled (slice_range bytes at end) (omega (arith, length-slice_range bytes at end order within))

  pub word_here : at + k < end → 0 < word_len (slice_range bytes (at + k) end)
  word_here h =
      let le : at + k ≤ end = omega arith in
      rw (← drop-slice_range bytes at end k le, is) (word_some (slice_range bytes at end) (omega (arith, length-slice_range bytes at end order within)))

-- a word is not empty
filled_word : (b : ℕ) (word : List ℕ) → not (length (b ∷ word) == 0) ≡ true
filled_word b word = ap not (ne_eqb (length (b ∷ word)) 0 (λ e. absurd (omega arith)))

kept_word : (b : ℕ) (word : List ℕ) (words : List (List ℕ)) → filter (λ word. not (length word == 0)) ((b ∷ word) ∷ words) ≡ (b ∷ word) ∷ filter (λ word. not (length word == 0)) words
kept_word b word words = rw (filled_word b word) refl

-- the parts of a line between blanks
parts_of : List ℕ → List (List ℕ)
parts_of line = slice_split is_blank_byte line

words_are : (line : List ℕ) → words_of line ≡ filter (λ word. not (length word == 0)) (parts_of line)
unfolding words_of parts_of
words_are line = refl

part_of_blank : (b : ℕ) (line : List ℕ) → is_blank_byte b ≡ true → parts_of (b ∷ line) ≡ [] ∷ parts_of line
unfolding parts_of
part_of_blank b line h = rw h refl

part_of_other : (b : ℕ) (line : List ℕ) → is_blank_byte b ≡ false → parts_of (b ∷ line) ≡ onto_first b (parts_of line)
unfolding parts_of
part_of_other b line h = rw h refl

no_parts : parts_of [] ≡ [] ∷ []
unfolding parts_of
no_parts = refl

not_false : (t : Bool) → not t ≡ false → t ≡ true
not_false true h = refl
not_false false h = absurd (cc)

not_true : (t : Bool) → not t ≡ true → t ≡ false
not_true true h = absurd (cc)
not_true false h = refl

-- the parts of a line that begins with a word or does not
kept_onto : (b c : ℕ) (parts : List (List ℕ)) →
    filter (λ word. not (length word == 0)) (onto_first b (onto_first c parts)) ≡ onto_first b (filter (λ word. not (length word == 0)) (onto_first c parts))
kept_onto b c [] = kept_word b (c ∷ []) [] ∙ ap (onto_first b) (sym (kept_word c [] []))
kept_onto b c (part ∷ parts) = kept_word b (c ∷ part) parts ∙ ap (onto_first b) (sym (kept_word c part parts))

-- blanks at the front are in no word
module _ (b : ℕ) (line : List ℕ) where
  pub words_of_blank : is_blank_byte b ≡ true → words_of (b ∷ line) ≡ words_of line
  words_of_blank h = words_are (b ∷ line) ∙ ap (filter (λ word. not (length word == 0))) (part_of_blank b line h) ∙ sym (words_are line)

  pub words_of_last : is_blank_byte b ≡ false → begins_word line ≡ false → words_of (b ∷ line) ≡ (b ∷ []) ∷ words_of line
  words_of_last h e = words_are (b ∷ line) ∙ ap (filter (λ word. not (length word == 0))) (part_of_other b line h) ∙ by line e ∙ ap (λ words. (b ∷ []) ∷ words) (sym (words_are line))
    where
      by : (rest : List ℕ) → begins_word rest ≡ false → filter (λ word. not (length word == 0)) (onto_first b (parts_of rest)) ≡ (b ∷ []) ∷ filter (λ word. not (length word == 0)) (parts_of rest)
      by [] k = rw no_parts (kept_word b [] [])
      by (c ∷ rest) k = rw (part_of_blank c rest (not_false (is_blank_byte c) k)) (kept_word b [] (parts_of rest))

  pub words_of_more : is_blank_byte b ≡ false → begins_word line ≡ true → words_of (b ∷ line) ≡ onto_first b (words_of line)
  words_of_more h e = words_are (b ∷ line) ∙ ap (filter (λ word. not (length word == 0))) (part_of_other b line h) ∙ by line e ∙ ap (onto_first b) (sym (words_are line))
    where
      by : (rest : List ℕ) → begins_word rest ≡ true → filter (λ word. not (length word == 0)) (onto_first b (parts_of rest)) ≡ onto_first b (filter (λ word. not (length word == 0)) (parts_of rest))
      by [] k = absurd (cc)
      by (c ∷ rest) k = rw (part_of_other c rest (not_true (is_blank_byte c) k)) (kept_onto b c (parts_of rest))

pub words_of_skip : (line : List ℕ) → words_of line ≡ words_of (drop (blank_len line) line)
words_of_skip [] = refl
words_of_skip (b ∷ line) =
    (elim (is_blank_byte b) as (λ v. is_blank_byte b ≡ v → words_of (b ∷ line) ≡ words_of (drop (if v then suc (blank_len line) else 0) (b ∷ line))) [
      | true ↦ λ e. words_of_blank b line e ∙ words_of_skip line
      | false ↦ λ e. refl
    ]) refl

-- the first word, and the words after it
words_of_word : (b : ℕ) (line : List ℕ) → is_blank_byte b ≡ false → words_of (b ∷ line) ≡ (b ∷ take (word_len line) line) ∷ words_of (drop (word_len line) line)
words_of_word b [] h = words_of_last b [] h refl
words_of_word b (c ∷ line) h =
    (elim (is_blank_byte c) as (λ v. is_blank_byte c ≡ v → words_of (b ∷ c ∷ line) ≡ (b ∷ take (if v then 0 else suc (word_len line)) (c ∷ line)) ∷ words_of (drop (if v then 0 else suc (word_len line)) (c ∷ line))) [
      | true ↦ λ e. words_of_last b (c ∷ line) h (ap not e)
      | false ↦ λ e. words_of_more b (c ∷ line) h (ap not e) ∙ ap (onto_first b) (words_of_word c line e)
    ]) refl

pub word_first : (line : List ℕ) → 0 < word_len line → words_of line ≡ take (word_len line) line ∷ words_of (drop (word_len line) line)
word_first [] h = absurd (omega arith)
word_first (b ∷ line) h =
    (elim (is_blank_byte b) as (λ v. is_blank_byte b ≡ v → 0 < (if v then 0 else suc (word_len line)) → words_of (b ∷ line) ≡ take (if v then 0 else suc (word_len line)) (b ∷ line) ∷ words_of (drop (if v then 0 else suc (word_len line)) (b ∷ line))) [
      | true ↦ λ e h. absurd (omega arith)
      | false ↦ λ e h. words_of_word b line e
    ]) refl h

pub words_of_blanks : (line : List ℕ) → is_blank line ≡ true → words_of line ≡ []
unfolding words_of
words_of_blanks [] h = refl
words_of_blanks (b ∷ line) h = let parts = and_parts (is_blank_byte b) (is_blank line) h in words_of_blank b line parts.0 ∙ words_of_blanks line parts.1

pub to_end : (line : List ℕ) (at : ℕ) → slice_range line at (length line) ≡ drop at line
to_end line at = grind (arith, common_steps)

-- the words from a place on: the one that stands there, and those from its end on
pub word_step : (line : List ℕ) (at start end : ℕ) → start ≡ at + blank_len (slice_range line at (length line)) → end ≡ start + word_len (slice_range line start (length line)) → start < end
    → words_of (drop at line) ≡ slice_range line start end ∷ words_of (drop end line)
word_step line at start end s e lt =
    let s' : start ≡ at + blank_len (drop at line) = rw (to_end line at) at s in
    let e' : end ≡ start + word_len (drop start line) = rw (to_end line start) at e in
    let n : word_len (drop start line) ≡ end - start = omega (arith, e') in
    let back : start + (end - start) ≡ end = omega arith in
    words_of_skip (drop at line)
    ∙ ap words_of (drop-drop (blank_len (drop at line)) at line ∙ ap (λ k. drop k line) (sym s'))
    ∙ word_first (drop start line) (omega (arith, e'))
    ∙ ap (λ k. take k (drop start line) ∷ words_of (drop k (drop start line))) n
    ∙ ap (λ t. take (end - start) (drop start line) ∷ words_of t) (drop-drop (end - start) start line ∙ ap (λ k. drop k line) back)

pub no_word : (line : List ℕ) (at : ℕ) → is_blank (slice_range line at (length line)) ≡ true → words_of (drop at line) ≡ []
no_word line at blank = words_of_blanks (drop at line) (rw (to_end line at) at blank)

number_after-le : (n : ℕ) (digits : List ℕ) → n ≤ number_after n digits
number_after-le n [] = omega arith
number_after-le n (b ∷ digits) = omega (arith, number_after-le (n * 10 + (b - 48)) digits)

-- a word of digits
module _ (word : List ℕ) (some : 0 < length word) (digits : list_all is_ascii_digit word ≡ true) where
  pub numeral_value : (v : ℕ) → v ≡ number_after 0 word → v < 2 ^ 64 → Value v ≡ numeral_of word
  numeral_value v is small = value word some digits is
    where
      value : (w : List ℕ) → 0 < length w → list_all is_ascii_digit w ≡ true → v ≡ number_after 0 w → Value v ≡ numeral_of w
      value [] h all e = absurd (omega arith)
      value (b ∷ w) h all e = rw (all, ← e, lt-ltb v (2 ^ 64) small) refl

  pub numeral_large : (v b : ℕ) (rest : List ℕ) → number_after v (b ∷ rest) ≡ number_after 0 word → 2 ^ 64 ≤ v * 10 + (b - 48) → TooLarge ≡ numeral_of word
  numeral_large v b rest is large = value word some digits big
    where
      big : 2 ^ 64 ≤ number_after 0 word
      big = omega (arith, number_after-le (v * 10 + (b - 48)) rest, is)

      value : (w : List ℕ) → 0 < length w → list_all is_ascii_digit w ≡ true → 2 ^ 64 ≤ number_after 0 w → TooLarge ≡ numeral_of w
      value [] h all e = absurd (omega arith)
      value (c ∷ w) h all e = rw (all, le-ltb (number_after 0 (c ∷ w)) (2 ^ 64) e) refl

-- the digits that are left
pub none_after : (v i : ℕ) (word : List ℕ) → length word ≤ i → number_after v (drop i word) ≡ v
none_after v i word h = rw (drop_of_length-le word h) refl

pub digit_after : (v i : ℕ) (word : List ℕ) → i < length word → number_after v (get_or word i 0 ∷ drop (suc i) word) ≡ number_after v (drop i word)
digit_after v i word h = ap (number_after v) (sym (drop-cons word i 0 h))

-- what the number of a word is, told by its numeral
pub number_some : (number : Option ℕ) (v : ℕ) → Value v ≡ numeral number → number ≡ Some v
number_some None v h = absurd (cc)
number_some (Some n) v h = by (nat_lt n (2 ^ 64)) h
  where
    by : (small : Bool) → Value v ≡ (if small then Value n else TooLarge) → Some n ≡ Some v
    by true k = cc
    by false k = absurd (cc)

-- the number that a word writes
pub number_written : (word : List ℕ) (n : ℕ) → number_of word ≡ Some n → number_after 0 word ≡ n
number_written [] n h = absurd (cc)
number_written (b ∷ word) n h = by (list_all is_ascii_digit (b ∷ word)) h
  where
    by : (digits : Bool) → (if digits then Some (number_after 0 (b ∷ word)) else None) ≡ Some n → number_after 0 (b ∷ word) ≡ n
    by true k = cc
    by false k = absurd (cc)

-- a digit is at most nine
pub digit_most : (b : ℕ) → is_ascii_digit b ≡ true → b - 48 ≤ 9
digit_most b h = grind (arith, common_steps, nat_tests)

-- a digit more
pub one_more_digit : (v d i : ℕ) → v < 2 ^ (4 * i) → d ≤ 9 → v * 10 + d < 2 ^ (4 * (i + 1))
one_more_digit v d i l s =
    let p : ℕ = 2 ^ (4 * i) in
    let more : 4 * (i + 1) ≡ 4 * i + 4 = omega arith in
    let e : 2 ^ (4 * (i + 1)) ≡ p * 16 = ap (λ n. 2 ^ n) more ∙ pow-add 2 (4 * i) 4 in
    omega (arith, e, l)

-- a number of at most sixteen digits
pub few_digits : (v i : ℕ) → v < 2 ^ (4 * i) → i ≤ 16 → v < 2 ^ 64
few_digits v i l few = let le : 4 * i ≤ 64 = omega arith in let m : 2 ^ (4 * i) ≤ 2 ^ 64 = pow_mono {j = 64} le in omega (arith, l, m)

pub digits_after : (i : ℕ) (word : List ℕ) → i < length word → is_ascii_digit (get_or word i 0) ≡ true → list_all is_ascii_digit (drop i word) ≡ list_all is_ascii_digit word →
    list_all is_ascii_digit (drop (i + 1) word) ≡ list_all is_ascii_digit word
digits_after i word h d e =
    let next : i + 1 ≡ suc i = omega arith in
    ap (λ n. list_all is_ascii_digit (drop n word)) next
    ∙ sym (ap (list_all is_ascii_digit) (drop-cons word i 0 h) ∙ ap (λ b. b && list_all is_ascii_digit (drop (suc i) word)) d) ∙ e

pub foreign_digit : (i : ℕ) (word : List ℕ) → i < length word → is_ascii_digit (get_or word i 0) ≡ false → list_all is_ascii_digit (drop i word) ≡ list_all is_ascii_digit word →
    list_all is_ascii_digit word ≡ false
foreign_digit i word h d e =
    sym e ∙ ap (list_all is_ascii_digit) (drop-cons word i 0 h) ∙ ap (λ b. b && list_all is_ascii_digit (drop (suc i) word)) d

pub numeral_foreign : (word : List ℕ) → list_all is_ascii_digit word ≡ false → NotDigits ≡ numeral_of word
numeral_foreign [] e = refl
numeral_foreign (b ∷ word) e = rw e refl

pub numeral_small : (word : List ℕ) (v : ℕ) → 0 < length word → list_all is_ascii_digit word ≡ true → v ≡ number_after 0 word → v < 2 ^ 64 → Value v ≡ numeral_of word
numeral_small [] v some all e l = absurd (omega arith)
numeral_small (b ∷ word) v some all e l =
    let l' : number_after 0 (b ∷ word) < 2 ^ 64 = omega (arith, e, l) in
    rw (all, lt-ltb (number_after 0 (b ∷ word)) (2 ^ 64) l') (ap Value e)
