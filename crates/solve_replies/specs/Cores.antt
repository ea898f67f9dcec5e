-- The reply with the rows of a matrix that are to blame.
use Rattle.std.specs.Prelude.{◌≡◌, ◌⊎◌, ℕ, List}
use Rattle.column_order.specs.Orders.{HasValidOrder}
use Rattle.row_model.specs.declared.kind.Kind.{Kind}
use Rattle.row_model.specs.Rows.{RowList}
use Rattle.instance_model.specs.Instance.{plain}
use Rattle.verdict_replies.specs.Verdicts.{IsVerdictReply}
use Rattle.verdict_replies.specs.Cores.{IsCoreText}

-- the status and the text tell a core of a matrix that has no valid order; of one that has, the text is that of `solve`
abbrev pub IsCoreReply : Kind → RowList → ℕ → List ℕ → Type 0
IsCoreReply kind m status text =
    ((HasValidOrder m.columns m.rows → ⊥) × (status ≡ 0) × IsCoreText kind m text) ⊎ (HasValidOrder m.columns m.rows × (status ≡ 1) × IsVerdictReply (plain kind m) 0 text)
