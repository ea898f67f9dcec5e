-- Which status a run over two files in memory leaves.
use Rattle.std.specs.Prelude.{◌≡◌, ◌≢◌, ◌⊎◌, ℕ, List, Some, None}
use Rattle.std.specs.List.{All}
use Rattle.command_input.specs.Words.{Command, files_of}
use Rattle.pq_cli.specs.Replies.{refusal_of}
use Rattle.memory_run.specs.Given.{IsGiven, OfFiles}
use Rattle.memory_run.specs.Called.{IsRunOf}

-- Where all of a command's files are among the two, the status is 3 if one of them is refused; if none is, it is 0, 1
-- or 5. Or memory is refused.
abbrev pub CompleteInMemoryLaw : Type 0
CompleteInMemoryLaw =
    (command : Command) (first second copy shown : List ℕ) (room line_room status : ℕ) →
    All IsGiven (files_of command) →
    IsRunOf (Some command) first second room line_room status copy shown →
    OfFiles first second command (λ files.
    (refusal_of command files ≢ None → (status ≡ 3) ⊎ (status ≡ 6))
    × (refusal_of command files ≡ None → (status ≡ 0) ⊎ (status ≡ 1) ⊎ (status ≡ 5) ⊎ (status ≡ 6)))
