-- The first refusal of a file, apart from how it is found.
use Rattle.std.specs.Prelude.{◌≡◌, ◌↔◌, ◌<◌, ◌≤◌, ℕ, ◌+◌, List, [], ◌∷◌, length, slice_get, Option, Some, None, Result, Ok, Err}
use Rattle.row_model.specs.declared.refusal.Refusal.{Refusal}
use Rattle.row_model.specs.declared.refusal.Read.{Read}
use Rattle.row_model.specs.declared.refusal.Read.TheVariants as read
use Rattle.row_model.specs.declared.TheConstants.{MAX_FILE_BYTES}
use Rattle.row_model.specs.declared.code.TheConstants.{EMPTY, LIMIT}
use Rattle.text_lines.specs.Lines.{NumberedLine, without_mark, lines_of, filled_lines}
use Rattle.text_lines.specs.Rows.{numbered_lines, first_refusal}

-- the refusal is that of the first line that is refused: it has the line's number and code, and no line before it is
-- refused; so many rows stand before the lines, and each line is refused by the code that it has behind so many rows
pub record IsOfFirstLine (code_of : ℕ → List ℕ → Option ℕ) (before : ℕ) (lines : List NumberedLine) (refusal : Refusal) : Type 0 where
  pub place : ℕ
  pub line : NumberedLine
  pub stands : slice_get lines place ≡ Some line
  pub number : refusal.line ≡ line.number
  pub code : code_of (before + place) line.text ≡ Some refusal.code
  pub earlier : (i : ℕ) (other : NumberedLine) → i < place → slice_get lines i ≡ Some other → code_of (before + i) other.text ≡ None

-- no line is refused
abbrev pub NoLineRefused : (ℕ → List ℕ → Option ℕ) → ℕ → List NumberedLine → Type 0
NoLineRefused code_of before lines = (i : ℕ) (line : NumberedLine) → slice_get lines i ≡ Some line → code_of (before + i) line.text ≡ None

-- there is a first refusal exactly where a line is refused, and it is that of the first such line
pub record FirstLineLaw : Type 0 where
  pub some : (code_of : ℕ → List ℕ → Option ℕ) (before : ℕ) (lines : List NumberedLine) (refusal : Refusal) →
      (first_refusal code_of before lines ≡ Some refusal) ↔ IsOfFirstLine code_of before lines refusal
  pub none : (code_of : ℕ → List ℕ → Option ℕ) (before : ℕ) (lines : List NumberedLine) → (first_refusal code_of before lines ≡ None) ↔ NoLineRefused code_of before lines

-- a file past the limit of its length is refused for that before all
abbrev pub RefusesLong : {T : Type 0} → (List ℕ → Read T) → Type 0
RefusesLong reading = (bytes : List ℕ) → MAX_FILE_BYTES < length bytes → reading bytes ≡ read.Refused (record { code = LIMIT; line = 0 })

-- the refusals of files that begin with a line apart, the head. Next comes a file without a line, then the head, and
-- then the first of the lines behind it that is refused; the code of such a line depends on the head, on the lines
-- behind the head, and on how many rows stand before it
pub record HeadRefusals {T H : Type 0} (reading : List ℕ → Read T) (lines : List ℕ → List NumberedLine) (head_of : List ℕ → Result H ℕ)
    (code_of : H → List NumberedLine → ℕ → List ℕ → Option ℕ) (before : ℕ) : Type 0 where
  pub too_long : RefusesLong reading
  pub no_line : (bytes : List ℕ) → length bytes ≤ MAX_FILE_BYTES → lines bytes ≡ [] → reading bytes ≡ read.Refused (record { code = EMPTY; line = 0 })
  pub bad_head : (bytes : List ℕ) (head : NumberedLine) (later : List NumberedLine) (code : ℕ) →
      length bytes ≤ MAX_FILE_BYTES → lines bytes ≡ head ∷ later → head_of head.text ≡ Err code → reading bytes ≡ read.Refused (record { code = code; line = head.number })
  pub bad_line : (bytes : List ℕ) (head : NumberedLine) (later : List NumberedLine) (h : H) (refusal : Refusal) →
      length bytes ≤ MAX_FILE_BYTES → lines bytes ≡ head ∷ later → head_of head.text ≡ Ok h → IsOfFirstLine (code_of h later) before later refusal → reading bytes ≡ read.Refused refusal

-- where no line behind the head is refused, the file is read as the value that the head and the lines behind it write
abbrev pub TakesLines :
    {T H : Type 0} → (List ℕ → Read T) → (List ℕ → List NumberedLine) → (List ℕ → Result H ℕ) → (H → List NumberedLine → ℕ → List ℕ → Option ℕ) → ℕ →
    (H → NumberedLine → List NumberedLine → T) → Type 0
TakesLines {T} {H} reading lines head_of code_of before written =
    (bytes : List ℕ) (head : NumberedLine) (later : List NumberedLine) (h : H) →
    length bytes ≤ MAX_FILE_BYTES →
    lines bytes ≡ head ∷ later →
    head_of head.text ≡ Ok h →
    NoLineRefused (code_of h later) before later →
    reading bytes ≡ read.Ok (written h head later)

-- the lines of a file that are not blank
abbrev pub filled_of : List ℕ → List NumberedLine
filled_of bytes = filled_lines 1 (lines_of (without_mark bytes))

-- all lines of a file
abbrev pub numbered_of : List ℕ → List NumberedLine
numbered_of bytes = numbered_lines 1 (lines_of (without_mark bytes))
