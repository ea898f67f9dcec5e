-- What an odd cycle says of the rows that are its reasons, and a text of what it tells.
use Rattle.std.specs.Prelude.{◌≡◌, ℕ, List}
use Rattle.column_order.specs.Orders.{HasValidOrder}
use Rattle.row_model.specs.declared.graph.Line.{Line}
use Rattle.row_model.specs.Cycles.{IsOddWalk}
use Rattle.row_model.specs.Rows.{RowList}
use Rattle.core_text.specs.Cores.{rows_at}
use Rattle.core_text.specs.Told.{AreAmong}
use Rattle.core_text.specs.Texts.{TextValue, IsInGrammar, core_text}

-- the rows that are reasons in a closed walk of odd length have no valid order together, whatever other rows there are
abbrev pub BlameLaw : Type 0
BlameLaw =
    (m : RowList) (set : List ℕ) (lines : List Line) →
    IsOddWalk m.columns m.rows lines →
    AreAmong set lines →
    HasValidOrder m.columns (rows_at m.rows set) → ⊥

-- no two cores have one text
abbrev pub OneCoreLaw : Type 0
OneCoreLaw = (t u : TextValue) → IsInGrammar t → IsInGrammar u → core_text t ≡ core_text u → t ≡ u
