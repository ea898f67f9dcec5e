-- What is said of the files and streams of the system.
use Rattle.std.specs.Prelude.{◌≡◌, ℕ, List, ◌++◌, map}
use Rattle.file_io.specs.Taken.{Taken}
use Rattle.command_input.specs.Words.{Command}
use Rattle.pq_cli.specs.Replies.{Replies}

-- the names of the files that were taken
abbrev pub names_taken : List Taken → List (List ℕ)
names_taken ts = map (λ t. t.name) ts

-- the bytes that were handed out
abbrev pub bytes_taken : List Taken → List (List ℕ)
bytes_taken ts = map (λ t. t.bytes) ts

-- what was sent to a stream is a reply to these files
abbrev pub RepliesTo : Command → ℕ → List ℕ → List ℕ → List (List ℕ) → Type 0
RepliesTo command status before after files = (text : List ℕ) × Replies command files status text × (after ≡ before ++ text)
