-- What a run promises over a shelf that tells the bytes of its files: for all files of its command, also for those that were
-- never opened.
use Rattle.std.specs.Prelude.{◌≡◌, ◌≢◌, ◌⊎◌, ℕ, List, Option, Some, None}
use Rattle.std.specs.List.{AllZip}
use Rattle.std.specs.Io.KnownBytes.{Appends}
use Rattle.command_input.specs.Words.{Command, files_of}
use Rattle.pq_cli.specs.Replies.{refusal_of}
use Rattle.pq_cli.specs.Promised.{IsPromised}
use Rattle.pq_cli.specs.Runs.{WritesReply}

-- the files of these names have these bytes, as a shelf tells them
abbrev pub AllTold : (List ℕ → Option (List ℕ)) → List (List ℕ) → List (List ℕ) → Type 0
AllTold told names files = AllZip (λ name bytes. told name ≡ Some bytes) names files

-- a fact about the bytes of a command's files, where a shelf tells them
abbrev pub WhereTold : (List ℕ → Option (List ℕ)) → Command → (List (List ℕ) → Type 0) → Type 0
WhereTold told command P = (files : List (List ℕ)) → AllTold told (files_of command) files → P files

-- a fact about the bytes of a command's files, where a shelf tells them and none of them is refused
abbrev pub WhereToldFine : (List ℕ → Option (List ℕ)) → Command → (List (List ℕ) → Type 0) → Type 0
WhereToldFine told command P = WhereTold told command (λ files. refusal_of command files ≡ None → P files)

-- The status is 0 or 1, or 3, and always 3 where one of the command's files is refused. Where none is, it is 0 or 1, and
-- the reply with this status was written whole.
pub record CompletesOverTold (told : List ℕ → Option (List ℕ)) (command : Command) (before after : Option (List ℕ)) (status : ℕ) : Type 0 where
  pub ends : (status ≡ 0) ⊎ (status ≡ 1) ⊎ (status ≡ 3)
  pub refused : WhereTold told command (λ files. refusal_of command files ≢ None → status ≡ 3)
  pub answered : WhereToldFine told command (λ files. (status ≡ 0) ⊎ (status ≡ 1))
  pub reply : WhereToldFine told command (λ files. WritesReply command files status before after)

-- for well-formed files the text that was written keeps the promise
abbrev pub KeepsPromiseOverTold : (List ℕ → Option (List ℕ)) → Command → Option (List ℕ) → Option (List ℕ) → ℕ → Type 0
KeepsPromiseOverTold told command before after status =
    WhereToldFine told command (λ files. (text : List ℕ) × Appends before after text × IsPromised command files status text)
