-- The files that a caller hands over.
use Rattle.std.specs.Prelude.{◌≡◌, ◌⊎◌, ◌↔◌, ℕ, Bool, true, List, [], ◌∷◌, take, drop, is_some, Option, Some, None, if◌then◌else◌, codes}
use Rattle.std.specs.List.{list_all}
use Rattle.std.specs.Str.{bytes_eq}
use Rattle.command_input.specs.Words.{Command, files_of}
use Rattle.pq_io.specs.NamedFiles.{Held, content_of}
use Rattle.file_io.specs.Taken.{Taken}
use Rattle.pq_cli.specs.Told.{AllTold}

-- the bytes of the two files, whose names are `1` and `2`
abbrev pub given : List ℕ → List ℕ → List ℕ → Option (List ℕ)
given first second name = if bytes_eq name (codes "2") then Some second else (if bytes_eq name (codes "1") then Some first else None)

-- the name of one of the two
abbrev pub IsGiven : List ℕ → Type 0
IsGiven name = (name ≡ codes "1") ⊎ (name ≡ codes "2")

-- the name of a command's file that stands behind the first so many
abbrev pub NamesNext : Command → ℕ → List ℕ → Type 0
NamesNext command before name = (rest : List (List ℕ)) × (drop before (files_of command) ≡ name ∷ rest)

-- a fact about the bytes of the first so many files of a command, where these are among the two
abbrev pub OfFirst : ℕ → List ℕ → List ℕ → Command → (List (List ℕ) → Type 0) → Type 0
OfFirst n first second command P = (files : List (List ℕ)) → AllTold (given first second) (take n (files_of command)) files → P files

-- a fact about the bytes of the files of a command, where these are among the two
abbrev pub OfFiles : List ℕ → List ℕ → Command → (List (List ℕ) → Type 0) → Type 0
OfFiles first second command P = (files : List (List ℕ)) → AllTold (given first second) (files_of command) files → P files

-- whether there are bytes of each file that was asked for
abbrev pub are_told : (List ℕ → Option (List ℕ)) → List Taken → Bool
are_told told ts = list_all (λ t. is_some (told t.name)) ts

-- no call fails but the choice of a name that no file has, and each such choice counts
pub record FailsOnlyAtAnother (files : Held) : Type 0 where
  pub never : files.failing ≡ []
  pub fault : (files.faults ≡ 0) ↔ (are_told (content_of files.files) files.taken ≡ true)
