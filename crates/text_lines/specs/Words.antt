-- The words of a line, and the numbers that they write.
use Rattle.std.specs.Prelude.{◌≡◌, ℕ, suc, ◌+◌, ◌-◌, ◌*◌, ◌^◌, List, [], ◌∷◌, map, length, ◌==◌, if◌then◌else◌, nat_lt, Bool, false, not, Option, Some, None}
use Rattle.std.specs.Char.{is_ascii_digit}
use Rattle.std.specs.List.{list_all, filter, slice_split}
use Rattle.text_lines.specs.Lines.{is_blank_byte}
use Rattle.text_lines.specs.declared.words.Numeral.{Numeral}
use Rattle.text_lines.specs.declared.words.Numeral.TheVariants.{Value, TooLarge, NotDigits}

-- how many spaces and tabs stand at the front
abbrev pub blank_len : List ℕ → ℕ
blank_len [] = 0
blank_len (b ∷ bytes) = if is_blank_byte b then suc (blank_len bytes) else 0

-- how many bytes other than spaces and tabs stand at the front
abbrev pub word_len : List ℕ → ℕ
word_len [] = 0
word_len (b ∷ bytes) = if is_blank_byte b then 0 else suc (word_len bytes)

-- whether a line begins with a word
abbrev pub begins_word : List ℕ → Bool
begins_word [] = false
begins_word (b ∷ line) = not (is_blank_byte b)

-- the words of a line: what stands between spaces and tabs, where that is not empty
unfoldable pub words_of : List ℕ → List (List ℕ)
words_of line = filter (λ word. not (length word == 0)) (slice_split is_blank_byte line)

-- the number that digits write, where a number stands before them
abbrev pub number_after : ℕ → List ℕ → ℕ
number_after n [] = n
number_after n (b ∷ digits) = number_after (n * 10 + (b - 48)) digits

-- the number that one or more digits write, however many they are; another word writes none
abbrev pub number_of : List ℕ → Option ℕ
number_of [] = None
number_of (b ∷ word) = if list_all is_ascii_digit (b ∷ word) then Some (number_after 0 (b ∷ word)) else None

-- the numbers that the words of a line write, word by word
abbrev pub numbers_in : List ℕ → List (Option ℕ)
numbers_in line = map number_of (words_of line)

-- what a number is in 64 bits
abbrev pub numeral : Option ℕ → Numeral
numeral None = NotDigits
numeral (Some n) = if nat_lt n (2 ^ 64) then Value n else TooLarge

-- what a word is as a number of 64 bits
abbrev pub numeral_of : List ℕ → Numeral
numeral_of word = numeral (number_of word)

-- the first of these words is this number, and the later words follow
pub record IsFirstNumber (words : List (List ℕ)) (number : Numeral) (later : List (List ℕ)) : Type 0 where
  pub word : List ℕ
  pub is : words ≡ word ∷ later
  pub writes : number ≡ numeral_of word
