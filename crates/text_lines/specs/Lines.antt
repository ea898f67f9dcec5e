-- The lines of a text.
use Rattle.std.specs.Prelude.{ℕ, suc, ◌+◌, ◌==◌, ◌||◌, ◌&&◌, List, [], ◌∷◌, if◌then◌else◌, Bool, take, map}
use Rattle.std.specs.List.{list_all, onto_first}
use Rattle.std.specs.Str.Lines.{strip_carriage_return}

-- the bytes without the byte order mark EF BB BF, if they begin with it
abbrev pub without_mark : List ℕ → List ℕ
without_mark (a ∷ b ∷ c ∷ bytes) = if (a == 239) && (b == 187) && (c == 191) then bytes else a ∷ b ∷ c ∷ bytes
without_mark bytes = bytes

-- a part of a text from its start on without its mark, and any later part as it is
abbrev pub unmarked_part : Bool → List ℕ → List ℕ
unmarked_part is_begun text = if is_begun then text else without_mark text

-- how many bytes stand before the first line feed, or in all
abbrev pub line_len : List ℕ → ℕ
line_len [] = 0
line_len (b ∷ bytes) = if b == 10 then 0 else suc (line_len bytes)

-- the bytes before the first line feed, or all
abbrev pub first_line : List ℕ → List ℕ
first_line bytes = take (line_len bytes) bytes

-- a line without one carriage return at its end
abbrev pub without_return : List ℕ → List ℕ
without_return [] = []
without_return (b ∷ []) = if b == 13 then [] else b ∷ []
without_return (b ∷ c ∷ line) = b ∷ without_return (c ∷ line)

-- the parts of a text that line feeds end; bytes after the last line feed are a part too
unfoldable pub line_parts : List ℕ → List (List ℕ)
line_parts [] = []
line_parts (b ∷ bytes) = if b == 10 then [] ∷ line_parts bytes else onto_first b (line_parts bytes)

-- the lines of a text: its parts, each without one carriage return at its end
abbrev pub lines_of : List ℕ → List (List ℕ)
lines_of text = map strip_carriage_return (line_parts text)

-- a space or a tab
abbrev pub is_blank_byte : ℕ → Bool
is_blank_byte b = (b == 32) || (b == 9)

-- a line without a word
abbrev pub is_blank : List ℕ → Bool
is_blank line = list_all is_blank_byte line

-- a line and its number
pub record NumberedLine : Type 0 where
  pub number : ℕ
  pub text : List ℕ

-- the lines that are not blank, with their numbers, where the first line has this number
unfoldable pub filled_lines : ℕ → List (List ℕ) → List NumberedLine
filled_lines number [] = []
filled_lines number (line ∷ lines) =
    if is_blank line then filled_lines (number + 1) lines else record { number = number; text = line } ∷ filled_lines (number + 1) lines
