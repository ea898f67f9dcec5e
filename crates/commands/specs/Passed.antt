-- A verdict that is true of an instance passes each test of a check.
use Rattle.std.specs.Prelude.{ℕ, List, slice_get, IsSomeAnd}
use Rattle.row_model.specs.Rows.{RowList}
use Rattle.tree_theory.specs.Tied.{IsTied}
use Rattle.verdict_text.specs.Verdict.{SideValue, YesValue}
use Rattle.instance_model.specs.Instance.{InstanceValue, IsInstance, IsWellFormed}
use Rattle.verdict_judge.specs.Accepted.{IsAccepted}
use Rattle.verdict_judge.specs.Truth.{IsTrueAdded}
use Rattle.commands.specs.Judgements.{HasVerdict}
use Rattle.verdict_replies.specs.Verdicts.{ShowsAllOrders, ShowsSides, AddsToOrder, IsVerdictReply}

-- the tree of a side that shows all orders of a matrix is tied to its rows
abbrev pub TiedSideLaw : Type 0
TiedSideLaw = (m : RowList) (side : SideValue) → ShowsAllOrders m side → IsTied m.columns m.rows side.tree

-- what such a verdict adds to the order of its first side is true of the instance
abbrev pub AddedLaw : Type 0
AddedLaw =
    (i : InstanceValue) (value : YesValue) → IsInstance i → IsWellFormed i →
    ShowsSides i value.sides →
    IsSomeAnd (slice_get value.sides 0) (λ side. AddsToOrder i side.order value.added) →
    IsTrueAdded i value

-- the text of a reply is that of a verdict that passes each test, within the limit of bytes
abbrev pub PassedLaw : Type 0
PassedLaw =
    (i : InstanceValue) (status : ℕ) (text : List ℕ) → IsInstance i → IsWellFormed i →
    IsVerdictReply i status text →
    HasVerdict text (IsAccepted i)
