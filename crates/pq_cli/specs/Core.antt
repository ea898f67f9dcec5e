-- What `core` tells, and what `check-core` believes.
use Rattle.std.specs.Prelude.{◌≡◌, ◌↔◌, ℕ, List, [], ◌∷◌, codes}
use Rattle.column_order.specs.Orders.{HasValidOrder}
use Rattle.row_model.specs.declared.kind.Kind.{Kind}
use Rattle.row_model.specs.declared.refusal.Read.TheVariants as read
use Rattle.row_model.specs.Rows.{RowList}
use Rattle.instance_model.specs.Instance.{plain}
use Rattle.core_text.specs.Cores.{IsCore}
use Rattle.core_text.specs.Texts.{TextValue, IsInGrammar, core_text}
use Rattle.verdict_judge.specs.Core.{IsAcceptedCore}
use Rattle.command_input.specs.Words.{Solve, Core, CheckCore}
use Rattle.command_input.specs.Instances.{instance_of}
use Rattle.commands.specs.CoreJudgements.{HasCoreText}
use Rattle.pq_cli.specs.Replies.{Replies}

-- the text names rows that are a core of the matrix
abbrev pub NamesCore : RowList → List ℕ → Type 0
NamesCore m text = (t : TextValue) × IsInGrammar t × (text ≡ core_text t) × IsCore m t.parts.rows

-- the status of a reply to `core` is 0 exactly where the matrix has no valid order, and else 1
abbrev pub CoreStatusLaw : Type 0
CoreStatusLaw =
    (kind : Kind) (file bytes text : List ℕ) (status : ℕ) (m : RowList) →
    instance_of kind bytes ≡ read.Ok (plain kind m) →
    Replies (Core kind file) (bytes ∷ []) status text →
    ((status ≡ 0) ↔ (HasValidOrder m.columns m.rows → ⊥)) × ((status ≡ 1) ↔ HasValidOrder m.columns m.rows)

-- where the matrix has a valid order, the reply is one that `solve` gives on the same bytes
abbrev pub NoCoreLaw : Type 0
NoCoreLaw = (kind : Kind) (file other bytes text : List ℕ) → Replies (Core kind file) (bytes ∷ []) 1 text → Replies (Solve kind other) (bytes ∷ []) 0 text

-- the rows that `core` writes with status 0 are a core of the matrix
abbrev pub CoreWrittenLaw : Type 0
CoreWrittenLaw =
    (kind : Kind) (file bytes text : List ℕ) (m : RowList) →
    instance_of kind bytes ≡ read.Ok (plain kind m) →
    Replies (Core kind file) (bytes ∷ []) 0 text →
    NamesCore m text

-- what `check-core` ends on with status 0 names a core of the matrix
abbrev pub CoreBelievedLaw : Type 0
CoreBelievedLaw =
    (kind : Kind) (file core bytes given text : List ℕ) (m : RowList) →
    instance_of kind bytes ≡ read.Ok (plain kind m) →
    Replies (CheckCore kind file core) (bytes ∷ given ∷ []) 0 text →
    NamesCore m given

-- `check-core` ends with status 0 exactly where the bytes are the text of a core that passes each test, within the limit of bytes
abbrev pub CoreValidLaw : Type 0
CoreValidLaw =
    (kind : Kind) (file core bytes given text : List ℕ) (status : ℕ) (m : RowList) →
    instance_of kind bytes ≡ read.Ok (plain kind m) →
    Replies (CheckCore kind file core) (bytes ∷ given ∷ []) status text →
    (status ≡ 0) ↔ HasCoreText given (IsAcceptedCore m kind)

-- `check-core` finds valid what `core` wrote with status 0 on the same bytes
abbrev pub CoreAgreedLaw : Type 0
CoreAgreedLaw =
    (kind : Kind) (file other core bytes given text : List ℕ) (status : ℕ) →
    Replies (Core kind file) (bytes ∷ []) 0 given →
    Replies (CheckCore kind other core) (bytes ∷ given ∷ []) status text →
    (status ≡ 0) × (text ≡ codes "valid\n")
