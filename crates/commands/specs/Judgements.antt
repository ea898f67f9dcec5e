-- What a check finds of the bytes of a verdict.
use Rattle.std.specs.Prelude.{◌≡◌, ◌≢◌, ℕ, ◌<◌, ◌≤◌, List, ◌++◌, length, Option, Some, None, codes}
use Rattle.std.specs.Fmt.{decimal}
use Rattle.verdict_text.specs.Verdict.{VerdictValue}
use Rattle.verdict_text.specs.Grammar.{IsVerdict}
use Rattle.verdict_text.specs.Text.{verdict_text}
use Rattle.instance_model.specs.Instance.{InstanceValue}
use Rattle.verdict_judge.specs.Accepted.{IsAccepted, FailsFirst}
use Rattle.verdict_judge.specs.declared.outcome.Reason.{Reason}
use Rattle.verdict_judge.specs.declared.outcome.Reason.TheVariants as reason
use Rattle.verdict_replies.specs.declared.TheConstants.{MAX_VERDICT_BYTES}
use Rattle.commands.specs.Faults.{TellsFault}
use Rattle.commands.specs.declared.judgement.Judgement.{Judgement}
use Rattle.commands.specs.declared.judgement.Judgement.TheVariants as judgement

-- the bytes are within the limit, and the text of a verdict of which P holds
abbrev pub HasVerdict : List ℕ → (VerdictValue → Type 0) → Type 0
HasVerdict bytes P = (length bytes ≤ MAX_VERDICT_BYTES) × ((v : VerdictValue) × IsVerdict v × (bytes ≡ verdict_text v) × P v)

-- What is found of the bytes: they are the text of a verdict that passes each test on the instance; or the first test
-- that fails, of which those of the length and of the grammar come before those of the verdict.
abbrev pub IsJudgement : InstanceValue → List ℕ → Judgement → Type 0
IsJudgement i bytes judgement.Valid = HasVerdict bytes (IsAccepted i)
IsJudgement i bytes judgement.TooLong = MAX_VERDICT_BYTES < length bytes
IsJudgement i bytes judgement.NoVerdict = (length bytes ≤ MAX_VERDICT_BYTES) × ((v : VerdictValue) → IsVerdict v → bytes ≢ verdict_text v)
IsJudgement i bytes (judgement.Fails r) = HasVerdict bytes (λ v. FailsFirst i v r)

-- the words of a reason
abbrev pub reason_text : Reason → List ℕ
reason_text reason.Kind = codes "kind"
reason_text reason.Columns = codes "columns"
reason_text (reason.Order side) = codes "order " ++ decimal side
reason_text (reason.Tree side row) = codes "tree " ++ (decimal side ++ (codes " " ++ decimal row))
reason_text (reason.Complete side) = codes "complete " ++ decimal side
reason_text reason.Intervals = codes "intervals"
reason_text reason.Places = codes "places"
reason_text reason.Contigs = codes "contigs"
reason_text (reason.Length count) = codes "length " ++ decimal count
reason_text (reason.Pair line) = codes "pair " ++ decimal line
reason_text (reason.Repeat line) = codes "repeat " ++ decimal line
reason_text (reason.Join line) = codes "join " ++ decimal line

-- the words of the test that fails, if one does
abbrev pub judgement_fault : Judgement → Option (List ℕ)
judgement_fault judgement.Valid = None
judgement_fault judgement.TooLong = Some (codes "too-long")
judgement_fault judgement.NoVerdict = Some (codes "text")
judgement_fault (judgement.Fails r) = Some (reason_text r)

-- the status and the text tell what is found of the bytes
abbrev pub IsJudgementReply : InstanceValue → List ℕ → ℕ → List ℕ → Type 0
IsJudgementReply i bytes status text = (found : Judgement) × IsJudgement i bytes found × TellsFault (judgement_fault found) status text
