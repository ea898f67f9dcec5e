-- Files by name, of which the last one of a name counts.
use Rattle.std.specs.Prelude.{ℕ, List, Option, Some, None, fold, if◌then◌else◌}
use Rattle.std.specs.Str.{bytes_eq}
use Rattle.file_io.specs.Taken.{Taken}

-- a file: its name and its bytes
pub record NamedFile : Type 0 where
  pub name : List ℕ
  pub bytes : List ℕ

-- the bytes of the last file with this name
abbrev pub content_of : List NamedFile → List ℕ → Option (List ℕ)
content_of files name = fold (λ found file. if bytes_eq file.name name then Some file.bytes else found) None files

-- what a shelf in memory holds: its files in the order in which they were added, the bytes left of the chosen one,
-- what was taken of the files, the greatest number of bytes a read, the numbers of the calls that are to fail, and how
-- many calls there were and have failed
pub record Held : Type 0 where
  pub files : List NamedFile
  pub left : Option (List ℕ)
  pub taken : List Taken
  pub piece : ℕ
  pub failing : List ℕ
  pub calls : ℕ
  pub faults : ℕ
