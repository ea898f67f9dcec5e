-- Words as numbers, and the one or two numbers of a line.
use Rattle.std.specs.Prelude.{ℕ, ◌==◌, ◌&&◌, not, nat_lt, Bool, true, false, List, [], ◌∷◌, if◌then◌else◌, Option, Some, None, Result, Ok, Err}
use Rattle.row_model.specs.declared.code.TheConstants.{GRAMMAR, RANGE, LIMIT}
use Rattle.text_lines.specs.Words.{numeral_of}
use Rattle.text_lines.specs.declared.words.Numeral.{Numeral}
use Rattle.text_lines.specs.declared.words.Numeral.TheVariants.{Value, TooLarge, NotDigits}
use Rattle.graph_read.specs.declared.numbers.NumberPair.{NumberPair}

-- whether a word is digits
abbrev pub is_number : Numeral → Bool
is_number (Value n) = true
is_number TooLarge = true
is_number NotDigits = false

-- whether a number is 0
abbrev pub is_zero : Numeral → Bool
is_zero (Value n) = n == 0
is_zero TooLarge = false
is_zero NotDigits = false

-- whether a number is past a limit
abbrev pub is_past : ℕ → Numeral → Bool
is_past limit (Value n) = nat_lt limit n
is_past limit TooLarge = true
is_past limit NotDigits = false

-- whether a number is one of 1 to n
abbrev pub is_within : ℕ → Numeral → Bool
is_within n a = not (is_zero a) && not (is_past n a)

-- a number of 64 bits
abbrev pub value_of : Numeral → ℕ
value_of (Value n) = n
value_of TooLarge = 0
value_of NotDigits = 0

-- two words as numbers, if both are digits
abbrev pub both_numbers : Numeral → Numeral → Option NumberPair
both_numbers a b = if is_number a && is_number b then Some (record { first = a; second = b }) else None

-- the two numbers of a line that is exactly two words of digits
abbrev pub two_numbers : List (List ℕ) → Option NumberPair
two_numbers (a ∷ b ∷ []) = both_numbers (numeral_of a) (numeral_of b)
two_numbers words = None

-- a word as a number, if it is digits
abbrev pub if_number : Numeral → Option Numeral
if_number a = if is_number a then Some a else None

-- the number of a line that is exactly one word of digits
abbrev pub one_number : List (List ℕ) → Option Numeral
one_number (a ∷ []) = if_number (numeral_of a)
one_number words = None

-- a number from 1 to a limit, or the code of its refusal
abbrev pub size_named : ℕ → Option Numeral → Result ℕ ℕ
size_named limit None = Err GRAMMAR
size_named limit (Some n) =
    if is_zero n then Err RANGE
    else if is_past limit n then Err LIMIT
    else Ok (value_of n)

-- whether a number is n
abbrev pub is_value : ℕ → Numeral → Bool
is_value n (Value a) = a == n
is_value n TooLarge = false
is_value n NotDigits = false

-- whether two numbers are x and y
abbrev pub are_values : ℕ → ℕ → Option NumberPair → Bool
are_values x y None = false
are_values x y (Some pair) = is_value x pair.first && is_value y pair.second
