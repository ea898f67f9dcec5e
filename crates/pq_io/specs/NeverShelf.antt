-- What a shelf that never fails holds.
use Rattle.std.specs.Prelude.{◌≡◌, ℕ, List, [], Option, Some, if◌then◌else◌, unwrap_or}
use Rattle.file_io.specs.Taken.{Taken}
use Rattle.pq_io.specs.NamedFiles.{NamedFile, content_of}
use Rattle.pq_io.specs.declared.never_shelf.NeverShelf.TheInside.{Inside}

-- its files in the order in which they were added, the bytes left of the chosen one, and what was taken of the files
pub record Kept : Type 0 where
  pub files : List NamedFile
  pub left : Option (List ℕ)
  pub taken : List Taken

-- the bytes of the last file with this name, or none where there is no such file
abbrev pub content_or_empty : List NamedFile → List ℕ → List ℕ
content_or_empty files name = unwrap_or (content_of files name) []

-- what the shelf holds, as contracts see it
abbrev pub kept : Inside → Kept
kept shelf = record {
  files = shelf.shelf.files;
  left = if shelf.is_missing then Some [] else shelf.shelf.left;
  taken = shelf.history.files;
}

-- no call of the shelf below is to fail
abbrev pub NeverFails : Inside → Type 0
NeverFails shelf = shelf.shelf.failing ≡ []
