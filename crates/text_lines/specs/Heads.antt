-- Lines of which the first is apart, the head.
use Rattle.std.specs.Prelude.{ℕ, ◌==◌, List, [], ◌∷◌, if◌then◌else◌, nat_lt, Option, Some, Result, Ok, Err}
use Rattle.row_model.specs.declared.refusal.Read.{Read}
use Rattle.row_model.specs.declared.refusal.Read.TheVariants as read
use Rattle.row_model.specs.declared.code.TheConstants.{EMPTY, GRAMMAR, RANGE, LIMIT}
use Rattle.text_lines.specs.Lines.{NumberedLine}

-- the one number of a line, if it is from 1 to a limit, or the code of its refusal
abbrev pub size_given : ℕ → List (Option ℕ) → Result ℕ ℕ
size_given limit (Some n ∷ []) = if n == 0 then Err RANGE else if nat_lt limit n then Err LIMIT else Ok n
size_given limit numbers = Err GRAMMAR

-- what follows from a head, or the refusal of its line, which has this number
abbrev pub if_head : {H T : Type 0} → ℕ → Result H ℕ → (H → Read T) → Read T
if_head number (Ok head) rest = rest head
if_head number (Err code) rest = read.Refused (record { code = code; line = number })

-- what lines give: the first is a head or is refused, and the rest follows from the head and the lines behind it
abbrev pub from_head : {H T : Type 0} → (List ℕ → Result H ℕ) → (H → List NumberedLine → Read T) → List NumberedLine → Read T
from_head head_of rest [] = read.Refused (record { code = EMPTY; line = 0 })
from_head head_of rest (first ∷ lines) = if_head first.number (head_of first.text) (λ head. rest head lines)
