-- The first line of a file.
use Rattle.std.specs.Prelude.{◌≡◌, ◌⊎◌, ℕ, ◌+◌, ◌<◌, ◌≤◌, List, [], ◌∷◌, length, drop}
use Rattle.row_model.specs.declared.refusal.Refusal.{Refusal}
use Rattle.row_model.specs.declared.TheConstants.{MAX_FILE_BYTES}
use Rattle.row_model.specs.declared.code.TheConstants.{EMPTY, LIMIT}
use Rattle.text_lines.specs.Lines.{lines_of, filled_lines}
use Rattle.text_lines.specs.FirstRefusal.{filled_of}

-- the refusal of a file that is too long, or in which each line is blank
abbrev pub IsHeadless : List ℕ → Refusal → Type 0
IsHeadless bytes refusal =
    ((MAX_FILE_BYTES < length bytes) × (refusal ≡ record { code = LIMIT; line = 0 }))
    ⊎ ((length bytes ≤ MAX_FILE_BYTES) × (filled_of bytes ≡ []) × (refusal ≡ record { code = EMPTY; line = 0 }))

-- in a file that is not too long the first line that is not blank has this number, and the others stand from a place of the text on
pub record IsHead (bytes text line : List ℕ) (number next : ℕ) : Type 0 where
  pub short : length bytes ≤ MAX_FILE_BYTES
  pub lines : filled_of bytes ≡ record { number = number; text = line } ∷ filled_lines (number + 1) (lines_of (drop next text))
  pub small : length text ≤ MAX_FILE_BYTES
  pub within : next ≤ length text
  pub passed : number ≤ next
