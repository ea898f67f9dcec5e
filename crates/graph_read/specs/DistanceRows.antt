-- The row of distances that a line writes, and the code by which it is refused.
use Rattle.std.specs.Prelude.{ℕ, zero, suc, ◌==◌, ◌&&◌, nat_le, Bool, true, List, [], ◌∷◌, length, map, slice_index_or, if◌then◌else◌, Option, Some, None}
use Rattle.row_model.specs.declared.code.TheConstants.{GRAMMAR, COUNT, RANGE, SYMMETRY}
use Rattle.text_lines.specs.Lines.{NumberedLine}
use Rattle.text_lines.specs.Rows.{code_or}
use Rattle.text_lines.specs.Words.{words_of, numeral_of}
use Rattle.text_lines.specs.declared.words.Numeral.{Numeral}
use Rattle.text_lines.specs.declared.words.Numeral.TheVariants.{Value, TooLarge, NotDigits}
use Rattle.graph_read.specs.Numbers.{value_of}

-- the code by which a word is refused as a distance, if it is: a distance is a number of 64 bits
abbrev pub distance_code : Numeral → Option ℕ
distance_code (Value n) = None
distance_code TooLarge = Some RANGE
distance_code NotDigits = Some GRAMMAR

-- the code of the first word that is refused as a distance, if there is one
unfoldable pub distances_code : List (List ℕ) → Option ℕ
distances_code [] = None
distances_code (word ∷ words) = code_or (distance_code (numeral_of word)) (distances_code words)

-- the distances that words write
abbrev pub distances_in : List (List ℕ) → List ℕ
distances_in words = map (λ word. value_of (numeral_of word)) words

-- the row that each line writes
abbrev pub rows_in : List NumberedLine → List (List ℕ)
rows_in lines = map (λ line. distances_in (words_of line.text)) lines

-- whether the distances of a row to the first items, so many, are those of the rows of these items to it, which stand
-- above it
abbrev pub is_mirrored : List (List ℕ) → List ℕ → ℕ → Bool
is_mirrored above row zero = true
is_mirrored above row (suc y) = is_mirrored above row y && (slice_index_or row y 0 == slice_index_or (slice_index_or above y []) (length above) 0)

-- whether a row is symmetric with all rows above it, and has 0 at its own place
abbrev pub is_next : List (List ℕ) → List ℕ → Bool
is_next above row = (slice_index_or row (length above) 0 == 0) && is_mirrored above row (length above)

-- the code by which distances are refused as the next row of a table of n items, if they are, where these rows stand
-- above
abbrev pub entries_code : ℕ → List (List ℕ) → List ℕ → Option ℕ
entries_code n above row = if length row == n then if is_next above row then None else Some SYMMETRY else Some COUNT

-- the code by which a line is refused as the next row of a table of n items, if it is, where these rows stand above it
abbrev pub next_row_code : ℕ → List (List ℕ) → List ℕ → Option ℕ
next_row_code n above line =
    if nat_le n (length above) then Some COUNT
    else code_or (distances_code (words_of line)) (entries_code n above (distances_in (words_of line)))
