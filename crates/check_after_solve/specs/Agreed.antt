-- What a check finds of what `solve` wrote. A shelf tells the bytes of its files.
use Rattle.std.specs.Prelude.{◌≡◌, ◌≢◌, ◌⊎◌, ℕ, List, [], ◌∷◌, Option, None, codes}
use Rattle.std.specs.Io.KnownBytes.{Appends}
use Rattle.file_io.specs.Faults.{Rose}
use Rattle.file_io.specs.Sink.{AppendsPrefix}
use Rattle.row_model.specs.declared.kind.Kind.{Kind}
use Rattle.command_input.specs.Words.{Solve}
use Rattle.pq_cli.specs.Replies.{Replies, refusal_of}
use Rattle.check_after_solve.specs.declared.Ended.{Ended}
use Rattle.check_after_solve.specs.declared.Ended.TheVariants.{Unsolved, Checked}

-- the name of the file of the instance
abbrev pub instance_name : List ℕ
instance_name = codes "instance"

-- a text is a whole reply of `solve` on these bytes, with this status
abbrev pub IsReplyOn : Kind → List ℕ → ℕ → List ℕ → Type 0
IsReplyOn kind bytes status text = ((status ≡ 0) ⊎ (status ≡ 1)) × Replies (Solve kind instance_name) (bytes ∷ []) status text

-- the bytes are those of an instance of the kind that is refused
abbrev pub IsRefusedOn : Kind → List ℕ → Type 0
IsRefusedOn kind bytes = refusal_of (Solve kind instance_name) (bytes ∷ []) ≢ None

-- a run without a reply ended with this status
abbrev pub IsUnsolvedAs : Kind → List ℕ → ℕ → Type 0
IsUnsolvedAs kind bytes status = ((status ≡ 3) × IsRefusedOn kind bytes) ⊎ (status ≡ 5) ⊎ (status ≡ 6)

-- `solve` on these bytes ended with this status, and wrote this text
abbrev pub IsSolvedAs : Kind → List ℕ → ℕ → List ℕ → Type 0
IsSolvedAs kind bytes status text = IsReplyOn kind bytes status text ⊎ IsUnsolvedAs kind bytes status

-- A check found what it was given valid and wrote so; or a write failed, and some first bytes of that were written; or
-- memory was refused, and nothing was written. What was sent and the count of faults go from the first to the second.
abbrev pub FindsValid : Option (List ℕ) → Option (List ℕ) → ℕ → ℕ → ℕ → Type 0
FindsValid before after faults_before faults_after found =
    ((found ≡ 0) × Appends before after (codes "valid\n")) ⊎ ((found ≡ 5) × Rose faults_before faults_after × AppendsPrefix before after (codes "valid\n"))
    ⊎ ((found ≡ 6) × (after ≡ before) × (faults_after ≡ faults_before))

-- a check of this verdict found it valid, where it is a reply of `solve`
abbrev pub IsFoundAs : Kind → List ℕ → List ℕ → Option (List ℕ) → Option (List ℕ) → ℕ → ℕ → ℕ → Type 0
IsFoundAs kind bytes verdict before after faults_before faults_after found =
    (status : ℕ) → IsReplyOn kind bytes status verdict → FindsValid before after faults_before faults_after found

-- how both runs ended: with a reply of `solve` that the check finds valid, or without a reply
abbrev pub IsEndOf : Kind → List ℕ → Option (List ℕ) → Option (List ℕ) → ℕ → ℕ → Ended → Type 0
IsEndOf kind bytes before after faults_before faults_after (Unsolved status) = IsUnsolvedAs kind bytes status
IsEndOf kind bytes before after faults_before faults_after (Checked status found) =
    ((text : List ℕ) × IsReplyOn kind bytes status text) × FindsValid before after faults_before faults_after found
