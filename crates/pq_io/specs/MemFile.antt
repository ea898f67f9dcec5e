-- The files that a shelf in memory keeps.
use Rattle.std.specs.Prelude.{◌≡◌, ℕ, ◌<◌, ◌≤◌, Bool, false, List, [], map, string_bytes, length, slice_get, IfSome, unwrap_or, option_map}
use Rattle.std.specs.Str.{bytes_eq}
use Rattle.pq_io.specs.NamedFiles.{NamedFile}
use Rattle.pq_io.specs.declared.mem_shelf.MemFile.{MemFile}

-- the names and the bytes of files
abbrev pub named_files : List MemFile → List NamedFile
named_files files = map (λ file. record { name = string_bytes file.name; bytes = file.bytes.items }) files

-- the bytes of the file at an index
abbrev pub bytes_at : List MemFile → ℕ → List ℕ
bytes_at files index = unwrap_or (option_map (λ file. file.bytes.items) (slice_get files index)) []

-- whether a file has this name
abbrev pub has_name : List ℕ → MemFile → Bool
has_name name file = bytes_eq (string_bytes file.name) name

-- no file from an index on has this name
abbrev pub IsNamedByNone : List ℕ → ℕ → List MemFile → Type 0
IsNamedByNone name start files = (k : ℕ) → start ≤ k → k < length files → IfSome (slice_get files k) (λ file. has_name name file ≡ false)
