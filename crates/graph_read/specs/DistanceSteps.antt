-- How a table of distances is read number after number into one list.
use Rattle.std.specs.Prelude.{ℕ, zero, suc, ◌+◌, ◌-◌, ◌==◌, ◌&&◌, nat_le, Bool, true, List, [], ◌∷◌, ◌++◌, length, if◌then◌else◌, Option, Some, None, Result, Ok, Err}
use Rattle.row_model.specs.declared.refusal.Refusal.{Refusal}
use Rattle.row_model.specs.declared.refusal.Read.{Read}
use Rattle.row_model.specs.declared.refusal.Read.TheVariants as read
use Rattle.row_model.specs.declared.code.TheConstants.{GRAMMAR, COUNT, RANGE, SYMMETRY}
use Rattle.text_lines.specs.Lines.{NumberedLine}
use Rattle.text_lines.specs.Words.{words_of, numeral_of}
use Rattle.text_lines.specs.declared.words.Numeral.{Numeral}
use Rattle.text_lines.specs.declared.words.Numeral.TheVariants.{Value, TooLarge, NotDigits}
use Rattle.graph_model.specs.Distances.{DistancesValue, distance}

-- a distance behind others, or the code of its refusal: a number of 64 bits
abbrev pub distance_then : Numeral → (ℕ → Result (List ℕ) ℕ) → Result (List ℕ) ℕ
distance_then (Value n) rest = rest n
distance_then TooLarge rest = Err RANGE
distance_then NotDigits rest = Err GRAMMAR

-- the values behind which the words write more, or the code of the first word that is refused
unfoldable pub numbers_behind : List ℕ → List (List ℕ) → Result (List ℕ) ℕ
numbers_behind values [] = Ok values
numbers_behind values (word ∷ words) = distance_then (numeral_of word) (λ n. numbers_behind (values ++ n ∷ []) words)

-- whether the distances of x to the first items are those of these items to x
abbrev pub is_symmetric_at : ℕ → List ℕ → ℕ → ℕ → Bool
is_symmetric_at n values x zero = true
is_symmetric_at n values x (suc y) = is_symmetric_at n values x y && (distance n values x (suc y) == distance n values (suc y) x)

-- whether the row of x is symmetric with the rows above it, and has 0 at x
abbrev pub is_row_at : ℕ → List ℕ → ℕ → Bool
is_row_at n values x = (distance n values x x == 0) && is_symmetric_at n values x (x - 1)

-- the table with a row more, that of x, or the code of its refusal
abbrev pub table_with_row : ℕ → ℕ → ℕ → Result (List ℕ) ℕ → Result (List ℕ) ℕ
table_with_row n whole x (Ok values) =
    if length values == whole then if is_row_at n values x then Ok values else Err SYMMETRY
    else Err COUNT
table_with_row n whole x (Err code) = Err code

-- the table with the row of a line, that of item x + 1, or the code of its refusal
abbrev pub row_behind : ℕ → ℕ → List ℕ → List ℕ → Result (List ℕ) ℕ
row_behind n x values line = if nat_le n x then Err COUNT else table_with_row n (length values + n) (x + 1) (numbers_behind values (words_of line))

-- the refusal of the line of this number by its code, or what follows from the table with its row
abbrev pub rows_then : Result (List ℕ) ℕ → ℕ → (List ℕ → Result (List ℕ) Refusal) → Result (List ℕ) Refusal
rows_then (Ok values) number rest = rest values
rows_then (Err code) number rest = Err (record { code = code; line = number })

-- the table of lines behind the rows of so many items, or the first refusal
unfoldable pub table_behind : ℕ → ℕ → List ℕ → List NumberedLine → Result (List ℕ) Refusal
table_behind n x values [] = if nat_le n x then Ok values else Err (record { code = COUNT; line = 0 })
table_behind n x values (line ∷ lines) = rows_then (row_behind n x values line.text) line.number (λ more. table_behind n (x + 1) more lines)

-- the distances of a table, or the refusal
abbrev pub distances_with : ℕ → Result (List ℕ) Refusal → Read DistancesValue
distances_with n (Ok values) = read.Ok (record { items = n; values = values })
distances_with n (Err refusal) = read.Refused refusal

-- the code of a refusal, if there is one
abbrev pub row_refused : Result (List ℕ) ℕ → Option ℕ
row_refused (Ok values) = None
row_refused (Err code) = Some code
