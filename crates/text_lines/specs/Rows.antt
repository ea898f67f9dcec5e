-- Rows that are read one after another, and the first refusal among them.
use Rattle.std.specs.Prelude.{ℕ, ◌+◌, List, [], ◌∷◌, Option, Some, None}
use Rattle.column_order.specs.Orders.{has}
use Rattle.row_model.specs.Rows.{columns_where}
use Rattle.row_model.specs.declared.refusal.Refusal.{Refusal}
use Rattle.row_model.specs.declared.refusal.Read.{Read}
use Rattle.row_model.specs.declared.refusal.Read.TheVariants as read
use Rattle.text_lines.specs.Lines.{NumberedLine}

-- lines with their numbers, where the first has this number
unfoldable pub numbered_lines : ℕ → List (List ℕ) → List NumberedLine
numbered_lines number [] = []
numbered_lines number (line ∷ lines) = record { number = number; text = line } ∷ numbered_lines (number + 1) lines

-- a code, or what follows
abbrev pub code_or : Option ℕ → Option ℕ → Option ℕ
code_or (Some code) rest = Some code
code_or None rest = rest

-- the refusal of this code at this line, or what follows
abbrev pub refusal_or : Option ℕ → ℕ → Option Refusal → Option Refusal
refusal_or (Some code) number rest = Some (record { code = code; line = number })
refusal_or None number rest = rest

-- the first refusal among lines, if there is one, where so many rows stand before them; a line is refused by the code
-- that it has behind so many rows
unfoldable pub first_refusal : (ℕ → List ℕ → Option ℕ) → ℕ → List NumberedLine → Option Refusal
first_refusal code_of before [] = None
first_refusal code_of before (line ∷ lines) = refusal_or (code_of before line.text) line.number (first_refusal code_of (before + 1) lines)

-- the refusal, if there is one, or the value
abbrev pub refused_or : {T : Type 0} → Option Refusal → T → Read T
refused_or (Some refusal) value = read.Refused refusal
refused_or None value = read.Ok value

-- the row over the columns 1 to c that has those among the numbers
abbrev pub columns_among : ℕ → List ℕ → List ℕ
columns_among c numbers = columns_where c (has numbers)
