-- What a line is, and what a word is, apart from how they are found.
use Rattle.std.specs.Prelude.{◌≡◌, ◌≢◌, ◌≤◌, ◌+◌, ℕ, List, [], ◌∷◌, ◌++◌, length, IsTrue, IsFalse}
use Rattle.std.specs.List.{list_any}
use Rattle.column_order.specs.Orders.{has}
use Rattle.text_lines.specs.Lines.{is_blank_byte, is_blank, without_return, lines_of, filled_lines}
use Rattle.text_lines.specs.Rows.{numbered_lines}
use Rattle.text_lines.specs.Words.{words_of}

-- no bytes have no line; bytes without a line feed and then a line feed are a line before those of the rest; bytes
-- without a line feed at the end are a line too; and one carriage return at the end of a line is no part of it, where
-- there is one
pub record LinesOfTextLaw : Type 0 where
  pub none : lines_of [] ≡ []
  pub feed : (line rest : List ℕ) → IsFalse (has line 10) → lines_of (line ++ 10 ∷ rest) ≡ without_return line ∷ lines_of rest
  pub last : (line : List ℕ) → 1 ≤ length line → IsFalse (has line 10) → lines_of line ≡ without_return line ∷ []
  pub return_nothing : without_return [] ≡ []
  pub return_dropped : (line : List ℕ) → without_return (line ++ 13 ∷ []) ≡ line
  pub return_none : (line : List ℕ) (b : ℕ) → b ≢ 13 → without_return (line ++ b ∷ []) ≡ line ++ b ∷ []

-- a line under its number is before the later ones, whose numbers go on from it; where blank lines are passed over they
-- count all the same, so the line behind a blank one has the number after that one's
pub record LineNumbersLaw : Type 0 where
  pub all_none : (number : ℕ) → numbered_lines number [] ≡ []
  pub all_line : (number : ℕ) (line : List ℕ) (lines : List (List ℕ)) → numbered_lines number (line ∷ lines) ≡ record { number = number; text = line } ∷ numbered_lines (number + 1) lines
  pub filled_none : (number : ℕ) → filled_lines number [] ≡ []
  pub filled_blank : (number : ℕ) (line : List ℕ) (lines : List (List ℕ)) → IsTrue (is_blank line) → filled_lines number (line ∷ lines) ≡ filled_lines (number + 1) lines
  pub filled_line : (number : ℕ) (line : List ℕ) (lines : List (List ℕ)) →
      IsFalse (is_blank line) → filled_lines number (line ∷ lines) ≡ record { number = number; text = line } ∷ filled_lines (number + 1) lines

-- bytes of which none is a blank
abbrev pub HasNoBlank : List ℕ → Type 0
HasNoBlank bytes = IsFalse (list_any is_blank_byte bytes)

-- no bytes have no word; a blank before the words is dropped; bytes other than blanks and then a blank are a word
-- before those of the rest; and such bytes at the end are a word too
pub record WordsLaw : Type 0 where
  pub none : words_of [] ≡ []
  pub blank : (b : ℕ) (line : List ℕ) → IsTrue (is_blank_byte b) → words_of (b ∷ line) ≡ words_of line
  pub word : (word rest : List ℕ) (b : ℕ) → 1 ≤ length word → HasNoBlank word → IsTrue (is_blank_byte b) → words_of (word ++ b ∷ rest) ≡ word ∷ words_of rest
  pub last : (word : List ℕ) → 1 ≤ length word → HasNoBlank word → words_of word ≡ word ∷ []
