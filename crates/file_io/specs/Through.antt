-- What the reading of a file through a taker gives.
use Rattle.std.specs.Prelude.{◌≡◌, ℕ, ◌<◌, ◌≤◌, Bool, true, List, length, Option, Some, None, Result, IfOk}
use Rattle.file_io.specs.Taken.{Taken}
use Rattle.file_io.specs.Whole.{HandsOutPart, FailsWithin}
use Rattle.file_io.specs.declared.error.ReadFail.{ReadFail}

-- what was made is made of what was handed out: all of it up to the end, or none of more than the limit
abbrev pub IsMadeOf : {M : Type 0} → ℕ → (List ℕ → M → Type 0) → List ℕ → Bool → Option M → Type 0
IsMadeOf limit makes piece ended (Some made) = (ended ≡ true) × (length piece ≤ limit) × makes piece made
IsMadeOf limit makes piece ended None = limit < length piece

-- the reads of a file handed out what something was made of, or some bytes where one failed
abbrev pub HandsOutThrough : {M : Type 0} → ℕ → (List ℕ → M → Type 0) → Option (List ℕ) → Option (List ℕ) → List Taken → List Taken → Result (Option M) ReadFail → Type 0
HandsOutThrough limit makes left_old left_new old new result =
    (piece : List ℕ) × (ended : Bool) × HandsOutPart left_old left_new old new piece ended × IfOk result (IsMadeOf limit makes piece ended)
    × FailsWithin limit piece ended result
