-- What a check believes.
use Rattle.std.specs.Prelude.{◌≡◌, ◌↔◌, ◌≤◌, ℕ, List, [], ◌∷◌, length, codes}
use Rattle.row_model.specs.declared.kind.Kind.{Kind}
use Rattle.row_model.specs.declared.refusal.Read.TheVariants as read
use Rattle.verdict_text.specs.Verdict.{VerdictValue}
use Rattle.verdict_text.specs.Grammar.{IsVerdict}
use Rattle.verdict_text.specs.Text.{verdict_text}
use Rattle.instance_model.specs.Instance.{InstanceValue}
use Rattle.verdict_judge.specs.Accepted.{IsAccepted}
use Rattle.verdict_judge.specs.Truth.{IsTrueVerdict}
use Rattle.verdict_judge.specs.Exact.{IsLinear, IsYesFor}
use Rattle.verdict_replies.specs.declared.TheConstants.{MAX_VERDICT_BYTES}
use Rattle.command_input.specs.Words.{Solve, Check}
use Rattle.command_input.specs.Instances.{instance_of}
use Rattle.commands.specs.Judgements.{HasVerdict}
use Rattle.pq_cli.specs.Replies.{Replies}

-- a verdict that a check ends on with status 0 is one of the grammar, and true of the instance
abbrev pub CheckLaw : Type 0
CheckLaw =
    (kind : Kind) (file verdict bytes given text : List ℕ) (i : InstanceValue) →
    instance_of kind bytes ≡ read.Ok i →
    Replies (Check kind file verdict) (bytes ∷ given ∷ []) 0 text →
    (v : VerdictValue) × IsVerdict v × (given ≡ verdict_text v) × IsTrueVerdict i v

-- a check ends with status 0 exactly where the bytes are the text of a verdict that passes each test, within the limit
-- of bytes
abbrev pub ValidStatusLaw : Type 0
ValidStatusLaw =
    (kind : Kind) (file verdict bytes given text : List ℕ) (status : ℕ) (i : InstanceValue) →
    instance_of kind bytes ≡ read.Ok i →
    Replies (Check kind file verdict) (bytes ∷ given ∷ []) status text →
    (status ≡ 0) ↔ HasVerdict given (IsAccepted i)

-- A check of a yes of the instance's kind and columns, within the limit of bytes, ends with status 0 exactly where the yes is
-- true: in version 2, where its trees have every textbook order and no other. Circular orders are left out, since a tree
-- tells them up to rotation.
abbrev pub TrueStatusLaw : Type 0
TrueStatusLaw =
    (kind : Kind) (file verdict bytes text : List ℕ) (status : ℕ) (i : InstanceValue) (v : VerdictValue) →
    instance_of kind bytes ≡ read.Ok i →
    IsLinear i →
    IsVerdict v →
    IsYesFor i v →
    length (verdict_text v) ≤ MAX_VERDICT_BYTES →
    Replies (Check kind file verdict) (bytes ∷ verdict_text v ∷ []) status text →
    (status ≡ 0) ↔ IsTrueVerdict i v

-- what `solve` wrote is the text of a verdict that passes each test, within the limit of bytes
abbrev pub SolvedLaw : Type 0
SolvedLaw =
    (kind : Kind) (file bytes given : List ℕ) (status : ℕ) (i : InstanceValue) →
    instance_of kind bytes ≡ read.Ok i →
    Replies (Solve kind file) (bytes ∷ []) status given →
    HasVerdict given (IsAccepted i)

-- a check of what `solve` wrote on the same bytes finds it valid
abbrev pub AgreedLaw : Type 0
AgreedLaw =
    (kind : Kind) (file other verdict bytes given text : List ℕ) (status found : ℕ) →
    Replies (Solve kind file) (bytes ∷ []) status given →
    Replies (Check kind other verdict) (bytes ∷ given ∷ []) found text →
    (found ≡ 0) × (text ≡ codes "valid\n")
