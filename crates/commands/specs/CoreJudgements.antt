-- What a check finds of the bytes of the text of a core.
use Rattle.std.specs.Prelude.{◌≡◌, ◌≢◌, ℕ, ◌<◌, ◌≤◌, List, ◌++◌, length, Option, Some, None, codes}
use Rattle.std.specs.Fmt.{decimal}
use Rattle.row_model.specs.declared.kind.Kind.{Kind}
use Rattle.row_model.specs.Rows.{RowList}
use Rattle.core_text.specs.Texts.{TextValue, IsInGrammar, core_text}
use Rattle.verdict_judge.specs.Core.{IsAcceptedCore, FailsCoreFirst}
use Rattle.verdict_judge.specs.declared.core_outcome.CoreReason.{CoreReason}
use Rattle.verdict_judge.specs.declared.core_outcome.CoreReason.TheVariants as reason
use Rattle.verdict_replies.specs.declared.TheConstants.{MAX_CORE_BYTES}
use Rattle.commands.specs.Faults.{TellsFault}
use Rattle.commands.specs.declared.core_judgement.CoreJudgement.{CoreJudgement}
use Rattle.commands.specs.declared.core_judgement.CoreJudgement.TheVariants as judgement

-- the bytes are within the limit, and the text of a core of which P holds
abbrev pub HasCoreText : List ℕ → (TextValue → Type 0) → Type 0
HasCoreText bytes P = (length bytes ≤ MAX_CORE_BYTES) × ((t : TextValue) × IsInGrammar t × (bytes ≡ core_text t) × P t)

-- What is found of the bytes: they are the text of a core that passes each test on the matrix; or the first test that fails, of which
-- those of the length and of the grammar come before those of the text.
abbrev pub IsCoreJudgement : Kind → RowList → List ℕ → CoreJudgement → Type 0
IsCoreJudgement kind m bytes judgement.Valid = HasCoreText bytes (IsAcceptedCore m kind)
IsCoreJudgement kind m bytes judgement.TooLong = MAX_CORE_BYTES < length bytes
IsCoreJudgement kind m bytes judgement.NoCore = (length bytes ≤ MAX_CORE_BYTES) × ((t : TextValue) → IsInGrammar t → bytes ≢ core_text t)
IsCoreJudgement kind m bytes (judgement.Fails r) = HasCoreText bytes (λ t. FailsCoreFirst m kind t r)

-- the words of a reason
abbrev pub core_reason_text : CoreReason → List ℕ
core_reason_text reason.Kind = codes "kind"
core_reason_text reason.Columns = codes "columns"
core_reason_text reason.Rows = codes "rows"
core_reason_text (reason.Order row) = codes "order " ++ decimal row
core_reason_text (reason.Length count) = codes "length " ++ decimal count
core_reason_text (reason.Pair line) = codes "pair " ++ decimal line
core_reason_text (reason.Repeat line) = codes "repeat " ++ decimal line
core_reason_text (reason.Join line) = codes "join " ++ decimal line

-- the words of the test that fails, if one does
abbrev pub core_judgement_fault : CoreJudgement → Option (List ℕ)
core_judgement_fault judgement.Valid = None
core_judgement_fault judgement.TooLong = Some (codes "too-long")
core_judgement_fault judgement.NoCore = Some (codes "text")
core_judgement_fault (judgement.Fails r) = Some (core_reason_text r)

-- the status and the text tell what is found of the bytes
abbrev pub IsCoreJudgementReply : Kind → RowList → List ℕ → ℕ → List ℕ → Type 0
IsCoreJudgementReply kind m bytes status text = (found : CoreJudgement) × IsCoreJudgement kind m bytes found × TellsFault (core_judgement_fault found) status text
