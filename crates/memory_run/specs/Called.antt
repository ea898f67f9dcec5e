-- What a run over two files in memory leaves, and what of it is handed over.
use Rattle.std.specs.Prelude.{◌≡◌, ◌≢◌, ◌⊎◌, ◌<◌, ◌≤◌, ℕ, List, [], length, take, codes, Option, Some, None, IfNone, IsNone, IfSome}
use Rattle.std.specs.List.{All}
use Rattle.row_model.specs.declared.refusal.Refusal.{Refusal}
use Rattle.command_input.specs.Words.{Command, files_of}
use Rattle.pq_cli.specs.Replies.{Replies, refusable, refusal_of}
use Rattle.pq_cli.specs.Promised.{IsPromised}
use Rattle.pq_cli.specs.Runs.{refused_line}
use Rattle.memory_run.specs.Given.{IsGiven, NamesNext, OfFirst, OfFiles}

-- The file of this number, counted from 1, is the first of the command's files that is refused, and this is its
-- refusal. It and those before it are among the two.
pub record IsFirstRefused (first second : List ℕ) (command : Command) (which : ℕ) (refusal : Refusal) : Type 0 where
  pub from : 1 ≤ which
  pub to : which ≤ refusable command
  pub given : All IsGiven (take which (files_of command))
  pub first_one : OfFirst which first second command (λ files. refusal_of command files ≡ Some (which, refusal))

-- The name behind the command's first so many files is none of the two. Those before it are among the two, and none
-- of them is refused.
pub record IsFirstAnother (first second : List ℕ) (command : Command) (before : ℕ) (name : List ℕ) : Type 0 where
  pub next : NamesNext command before name
  pub another : IsGiven name → ⊥
  pub given : All IsGiven (take before (files_of command))
  pub taken : OfFirst before first second command (λ files. refusal_of command files ≡ None)

-- the line that goes with a status which is no reply's; status 3 tells which file is refused and how
pub record IsLineFor (command : Option Command) (first second : List ℕ) (status : ℕ) (line : List ℕ) : Type 0 where
  pub outside : status ≡ 2 → line ≡ codes "pq: words\n"
  pub refused : status ≡ 3 → (which : ℕ) × (refusal : Refusal) × (line ≡ refused_line which refusal)
      × IfSome command (λ c. IsFirstRefused first second c which refusal)
  pub read_fault : status ≡ 4 → line ≡ codes "pq: read fault\n"
  pub no_memory : status ≡ 6 → line ≡ codes "pq: no memory\n"

-- A run of a command over the two files left this status, text and line; there is no command where the words are
-- outside the grammar. On 0 and 1 the text is a reply that keeps the promise of the command, on 3 a file is refused,
-- and on 4 the command names another file than the two.
pub record IsWholeRun (command : Option Command) (first second : List ℕ) (status : ℕ) (text line : List ℕ) : Type 0 where
  pub range : (status ≤ 6) × (status ≢ 5)
  pub grammar : status ≡ 2 → IsNone command
  pub outside : IfNone command ((status ≡ 2) ⊎ (status ≡ 6))
  pub given : (status ≡ 0) ⊎ (status ≡ 1) → IfSome command (λ c. All IsGiven (files_of c))
  pub reply : (status ≡ 0) ⊎ (status ≡ 1) → IfSome command (λ c. OfFiles first second c (λ files. Replies c files status text))
  pub promise : (status ≡ 0) ⊎ (status ≡ 1) → IfSome command (λ c. OfFiles first second c (λ files. IsPromised c files status text))
  pub another : status ≡ 4 → IfSome command (λ c. (before : ℕ) × (name : List ℕ) × IsFirstAnother first second c before name)
  pub unwritten : 2 ≤ status → text ≡ []
  pub quiet : (status ≡ 0) ⊎ (status ≡ 1) → line ≡ []
  pub said : 2 ≤ status → IsLineFor command first second status line

-- a line as it stands in this much room: whole, or not at all where it is longer
abbrev pub IsShown : ℕ → List ℕ → List ℕ → Type 0
IsShown room line shown = (length line ≤ room → shown ≡ line) × (room < length line → shown ≡ [])

-- What a run left is handed over into so much room for its text and its line. A text that is longer than its room
-- fills it, with the status 5 and the line of a write fault.
pub record IsHandedOver (room line_room : ℕ) (status : ℕ) (text line : List ℕ) (answer : ℕ) (copy shown : List ℕ) : Type 0 where
  pub fits : length text ≤ room → (answer ≡ status) × (copy ≡ text) × IsShown line_room line shown
  pub cut_short : room < length text → (answer ≡ 5) × (copy ≡ take room text) × IsShown line_room (codes "pq: write fault\n") shown

-- a run of a command over the two files was handed over into this much room
abbrev pub IsRunOf : Option Command → List ℕ → List ℕ → ℕ → ℕ → ℕ → List ℕ → List ℕ → Type 0
IsRunOf command first second room line_room answer copy shown =
    (status : ℕ) × (text : List ℕ) × (line : List ℕ) × IsWholeRun command first second status text line
    × IsHandedOver room line_room status text line answer copy shown
