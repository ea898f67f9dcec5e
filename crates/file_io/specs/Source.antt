-- Where the bytes of a file of the system come from.
use Rattle.std.specs.Prelude.{ℕ, List, codes, if◌then◌else◌}
use Rattle.std.specs.Str.{bytes_eq}

pub data Source : Type 0 where
  -- standard input
  StandardInput : Source
  -- the file that was opened by this name
  FileOf : (name : List ℕ) → Source

-- what a name stands for: `-` for standard input, any other for the file of that name
abbrev pub source_of : List ℕ → Source
source_of name = if bytes_eq name (codes "-") then StandardInput else FileOf name
