-- The lines of a text and their words are no more than its bytes.
use Rattle.std.proofs.Common.{◌≡◌, ℕ, zero, suc, ◌+◌, ◌*◌, ◌≤◌, Bool, true, false, if◌then◌else◌, ◌==◌, ◌&&◌, not, List, [], ◌∷◌, length, map, sum_by, refl, ap, arith, true≢false}
use Rattle.std.specs.Prelude.{⊤}
use Rattle.std.specs.List.{filter, onto_first, slice_split}
use Rattle.std.specs.Str.Lines.{strip_carriage_return}
use Rattle.std.proofs.lemmas.List.Sums.{sum_by-cons}
use Rattle.text_lines.proofs.LineLemmas.{strip_is, length-without_return-le}
use Rattle.text_lines.specs.FirstRefusal.{filled_of, numbered_of}
use Rattle.text_lines.specs.Lines.{is_blank_byte, is_blank, without_mark, line_parts, lines_of, NumberedLine, filled_lines}
use Rattle.text_lines.specs.Rows.{numbered_lines}
use Rattle.text_lines.specs.Words.{words_of}

-- the bytes of a line, and one that ends it
abbrev pub room : List ℕ → ℕ
room line = length line + 1

-- the same of a line with its number
abbrev pub line_room : NumberedLine → ℕ
line_room line = room line.text

-- a text without its mark is no longer
mark_short : (t : Bool) (a b c : ℕ) (bytes : List ℕ) → length (if t then bytes else a ∷ b ∷ c ∷ bytes) ≤ length (a ∷ b ∷ c ∷ bytes)
mark_short true a b c bytes = omega arith
mark_short false a b c bytes = omega arith

pub unmarked_short : (bytes : List ℕ) → length (without_mark bytes) ≤ length bytes
unmarked_short [] = omega arith
unmarked_short (a ∷ []) = omega arith
unmarked_short (a ∷ b ∷ []) = omega arith
unmarked_short (a ∷ b ∷ c ∷ bytes) = mark_short ((a == 239) && (b == 187) && (c == 191)) a b c bytes

-- a byte more ends the first part or belongs to it
part_room : (t : Bool) (b n : ℕ) (parts : List (List ℕ)) → sum_by room parts ≤ n + 1 → sum_by room (if t then [] ∷ parts else onto_first b parts) ≤ n + 2
part_room true b n parts h = omega (arith, h, sum_by-cons room [] parts)
part_room false b n [] h = omega (arith, sum_by-cons room (b ∷ []) [])
part_room false b n (part ∷ parts) h = omega (arith, h, sum_by-cons room (b ∷ part) parts, sum_by-cons room part parts)

parts_room : (bytes : List ℕ) → sum_by room (line_parts bytes) ≤ length bytes + 1
unfolding line_parts
parts_room [] = omega arith
parts_room (b ∷ bytes) = omega (arith, part_room (b == 10) b (length bytes) (line_parts bytes) (parts_room bytes))

split_room : (p : ℕ → Bool) (bytes : List ℕ) → sum_by room (slice_split p bytes) ≤ length bytes + 1
split_room p [] = omega (arith, sum_by-cons room [] [])
split_room p (b ∷ bytes) = omega (arith, part_room (p b) b (length bytes) (slice_split p bytes) (split_room p bytes))

-- lines are their parts without carriage returns
returned_room : (parts : List (List ℕ)) → sum_by room (map strip_carriage_return parts) ≤ sum_by room parts
returned_room [] = omega arith
returned_room (part ∷ parts) =
    omega (
      arith,
      sum_by-cons room (strip_carriage_return part) (map strip_carriage_return parts),
      sum_by-cons room part parts,
      ap length (strip_is part),
      length-without_return-le part,
      returned_room parts,
    )

lines_room : (bytes : List ℕ) → sum_by room (lines_of (without_mark bytes)) ≤ length bytes + 1
lines_room bytes = omega (arith, returned_room (line_parts (without_mark bytes)), parts_room (without_mark bytes), unmarked_short bytes)

numbered_room : (n : ℕ) (lines : List (List ℕ)) → sum_by line_room (numbered_lines n lines) ≤ sum_by room lines
unfolding numbered_lines
numbered_room n [] = omega arith
numbered_room n (line ∷ lines) =
    omega (arith, sum_by-cons line_room (record { number = n; text = line }) (numbered_lines (n + 1) lines), numbered_room (n + 1) lines, sum_by-cons room line lines)

filled_step : (t : Bool) (n : ℕ) (line : List ℕ) (rest : List NumberedLine) → sum_by line_room (if t then rest else record { number = n; text = line } ∷ rest) ≤ room line + sum_by line_room rest
filled_step true n line rest = omega arith
filled_step false n line rest = omega (arith, sum_by-cons line_room (record { number = n; text = line }) rest)

filled_room : (n : ℕ) (lines : List (List ℕ)) → sum_by line_room (filled_lines n lines) ≤ sum_by room lines
unfolding filled_lines
filled_room n [] = omega arith
filled_room n (line ∷ lines) =
    omega (arith, filled_step (is_blank line) n line (filled_lines (n + 1) lines), filled_room (n + 1) lines, sum_by-cons room line lines)

-- all lines of a file, and those that are not blank
pub numbered_short : (bytes : List ℕ) → sum_by line_room (numbered_of bytes) ≤ length bytes + 1
numbered_short bytes = omega (arith, numbered_room 1 (lines_of (without_mark bytes)), lines_room bytes)

pub filled_short : (bytes : List ℕ) → sum_by line_room (filled_of bytes) ≤ length bytes + 1
filled_short bytes = omega (arith, filled_room 1 (lines_of (without_mark bytes)), lines_room bytes)

-- each word has a byte, and one that ends it
word_step : (n : ℕ) (word : List ℕ) (t : Bool) (words : List (List ℕ)) → length word ≡ n → (n == 0) ≡ t → 2 * length (if not t then word ∷ words else words) ≤ room word + 2 * length words
word_step n word true words e z = omega arith
word_step zero word false words e z = absurd (true≢false z)
word_step (suc n) word false words e z = omega (arith, e)

words_step : (pieces : List (List ℕ)) → 2 * length (filter (λ word. not (length word == 0)) pieces) ≤ sum_by room pieces
words_step [] = omega arith
words_step (piece ∷ pieces) =
    omega (arith, word_step (length piece) piece (length piece == 0) (filter (λ word. not (length word == 0)) pieces) refl refl, words_step pieces, sum_by-cons room piece pieces)

pub words_short : (line : List ℕ) → 2 * length (words_of line) ≤ room line
unfolding words_of
words_short line = omega (arith, words_step (slice_split is_blank_byte line), split_room is_blank_byte line)

-- a line that is not blank has a byte
some_byte : (line : List ℕ) → is_blank line ≡ false → 1 ≤ length line
some_byte [] e = absurd (true≢false e)
some_byte (b ∷ line) e = omega arith

-- each of these lines has one
abbrev pub AreFilled : List NumberedLine → Type 0
AreFilled [] = ⊤
AreFilled (line ∷ lines) = (2 ≤ line_room line) × AreFilled lines

filled_one : (t : Bool) (n : ℕ) (line : List ℕ) (rest : List NumberedLine) → is_blank line ≡ t → AreFilled rest → AreFilled (if t then rest else record { number = n; text = line } ∷ rest)
filled_one true n line rest e h = h
filled_one false n line rest e h = (omega (arith, some_byte line e), h)

filled_each : (n : ℕ) (lines : List (List ℕ)) → AreFilled (filled_lines n lines)
unfolding filled_lines
filled_each n [] = tt
filled_each n (line ∷ lines) = filled_one (is_blank line) n line (filled_lines (n + 1) lines) refl (filled_each (n + 1) lines)

pub filled_all : (bytes : List ℕ) → AreFilled (filled_of bytes)
filled_all bytes = filled_each 1 (lines_of (without_mark bytes))

-- so there are no more than half as many
pub filled_two : (lines : List NumberedLine) → AreFilled lines → 2 * length lines ≤ sum_by line_room lines
filled_two [] h = omega arith
filled_two (line ∷ lines) h = omega (arith, h.0, sum_by-cons line_room line lines, filled_two lines h.1)
