-- What a run promises where nothing fails. A shelf is seen by what was taken of its files.
use Rattle.std.specs.Prelude.{◌≡◌, ◌≢◌, ◌⊎◌, ℕ, List, Option, None}
use Rattle.std.specs.Io.KnownBytes.{Appends}
use Rattle.file_io.specs.Faults.{Rose}
use Rattle.file_io.specs.Taken.{Taken}
use Rattle.command_input.specs.Words.{Command}
use Rattle.pq_cli.specs.Replies.{refusal_of}
use Rattle.pq_cli.specs.Runs.{OfTaken, WritesReply}
use Rattle.pq_cli.specs.Promised.{IsPromised}

-- no read and no write fails, and memory is not refused: neither count of faults rose, and the status is not 6
pub record NothingFails (reads_before reads_after writes_before writes_after status : ℕ) : Type 0 where
  pub reads : Rose reads_before reads_after → ⊥
  pub writes : Rose writes_before writes_after → ⊥
  pub memory : status ≢ 6

-- a fact about the bytes of the files that were taken, where none of them is refused
abbrev pub WhereWellFormed : List Taken → Command → (List (List ℕ) → Type 0) → Type 0
WhereWellFormed ts command P = OfTaken ts (λ files. refusal_of command files ≡ None → P files)

-- The status is 0 or 1, or 3, and always 3 where one of the files is refused. Where none is, it is 0 or 1, and the reply
-- with this status was written whole.
pub record Completes (ts : List Taken) (command : Command) (before after : Option (List ℕ)) (status : ℕ) : Type 0 where
  pub ends : (status ≡ 0) ⊎ (status ≡ 1) ⊎ (status ≡ 3)
  pub refused : OfTaken ts (λ files. refusal_of command files ≢ None → status ≡ 3)
  pub answered : WhereWellFormed ts command (λ files. (status ≡ 0) ⊎ (status ≡ 1))
  pub reply : WhereWellFormed ts command (λ files. WritesReply command files status before after)

-- for well-formed files the text that was written keeps the promise
abbrev pub KeepsPromise : List Taken → Command → Option (List ℕ) → Option (List ℕ) → ℕ → Type 0
KeepsPromise ts command before after status = WhereWellFormed ts command (λ files. (text : List ℕ) × Appends before after text × IsPromised command files status text)
