-- A word at the front of bytes.
use Rattle.std.specs.Prelude.{ℕ, List, length, drop, if◌then◌else◌, nat_eq, Option, Some, None}
use Rattle.std.specs.List.{starts_with}

-- the bytes after a word at the front
unfoldable pub word_at : List ℕ → List ℕ → Option (List ℕ)
word_at word bytes = if starts_with nat_eq bytes word then Some (drop (length word) bytes) else None
