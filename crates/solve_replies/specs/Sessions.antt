-- Further rows, taken in turn after the rows of a matrix, and the text that says what became of them.
use Rattle.std.specs.Prelude.{◌≡◌, ◌⊎◌, ⊤, ℕ, ◌+◌, ◌<◌, ◌≤◌, List, [], ◌∷◌, ◌++◌, length, Option, Some, None, codes}
use Rattle.std.specs.Fmt.{decimal}
use Rattle.column_order.specs.Orders.{HasValidOrder}
use Rattle.row_model.specs.Cycles.{IsOddCycle}
use Rattle.row_model.specs.Rows.{RowList}
use Rattle.row_model.specs.declared.graph.Line.{Line}
use Rattle.row_model.specs.declared.kind.Kind.{Kind}
use Rattle.odd_cycle.specs.Short.{IsShort}
use Rattle.row_judge.specs.Blamed.{IsReason}
use Rattle.c1p_solve.specs.Sessions.{with_row}
use Rattle.text_parts.specs.Numbered.{numbered}
use Rattle.verdict_text.specs.Text.{kind_line, columns_line, side_text}
use Rattle.text_parts.specs.Text.{counted_cycle}
use Rattle.verdict_text.specs.Verdict.{SideValue}
use Rattle.instance_model.specs.Instance.{plain}
use Rattle.verdict_replies.specs.Verdicts.{ShowsAllOrders, IsVerdictReply}
use Rattle.solve_replies.specs.declared.TheConstants.{MAX_EXPLAINED}

-- what becomes of a further row: it is accepted, or it is refused, for the first refusals with the lines of an odd
-- cycle
pub data Outcome : Type 0 where
  accepted : Outcome
  refused : (cycle : Option (List Line)) → Outcome

-- a short odd cycle of the rows of a matrix and a row behind them, which is a reason of it
abbrev pub Explains : RowList → List ℕ → List Line → Type 0
Explains m row lines = IsOddCycle m.columns (m.rows ++ row ∷ []) lines × IsShort m.columns lines × IsReason (length (m.rows ++ row ∷ [])) lines

-- What explains that a row is refused after those of the matrix, and after so many refusals: such a cycle where it is
-- among the first, and nothing later.
abbrev pub IsExplained : RowList → List ℕ → ℕ → Option (List Line) → Type 0
IsExplained m row refusals (Some lines) = (refusals < MAX_EXPLAINED) × Explains m row lines
IsExplained m row refusals None = MAX_EXPLAINED ≤ refusals

-- What becomes of a row after those of the matrix, where so many were refused before it: it is accepted where they have
-- a valid order together, and refused where they have none.
abbrev pub IsOutcome : RowList → ℕ → List ℕ → Outcome → Type 0
IsOutcome m refusals row accepted = HasValidOrder m.columns (m.rows ++ row ∷ [])
IsOutcome m refusals row (refused cycle) = (HasValidOrder m.columns (m.rows ++ row ∷ []) → ⊥) × IsExplained m row refusals cycle

-- the matrix after an outcome: an accepted row is appended, and a refused one changes nothing
abbrev pub matrix_after : RowList → List ℕ → Outcome → RowList
matrix_after m row accepted = with_row m row
matrix_after m row (refused cycle) = m

-- how many rows were refused, after an outcome
abbrev pub refusals_after : ℕ → Outcome → ℕ
refusals_after refusals accepted = refusals
refusals_after refusals (refused cycle) = refusals + 1

-- what becomes of further rows, which are taken in turn
abbrev pub AreOutcomes : RowList → ℕ → List (List ℕ) → List Outcome → Type 0
AreOutcomes m refusals [] [] = ⊤
AreOutcomes m refusals (row ∷ further) (outcome ∷ outcomes) =
    IsOutcome m refusals row outcome × AreOutcomes (matrix_after m row outcome) (refusals_after refusals outcome) further outcomes
AreOutcomes m refusals further outcomes = ⊥

-- the matrix after all of them: its rows at the start, and the accepted rows in their order
abbrev pub matrix_at_end : RowList → List (List ℕ) → List Outcome → RowList
matrix_at_end m (row ∷ further) (outcome ∷ outcomes) = matrix_at_end (matrix_after m row outcome) further outcomes
matrix_at_end m further outcomes = m

-- `I ok`; or `I no`, and the cycle where there is one
abbrev pub outcome_text : ℕ → Outcome → List ℕ
outcome_text i accepted = decimal i ++ codes " ok\n"
outcome_text i (refused None) = decimal i ++ codes " no\n"
outcome_text i (refused (Some cycle)) = decimal i ++ (codes " no\n" ++ counted_cycle cycle)

-- The whole text: the kind and the number of columns, what became of each further row, the tree of the rows at the end,
-- and an order.
unfoldable pub session_text : Kind → ℕ → List Outcome → SideValue → List ℕ
session_text kind c outcomes side =
    codes "pq-extend 1\n" ++ (kind_line kind ++ (columns_line (c ∷ []) ++ (numbered outcome_text 1 outcomes ++ (side_text side ++ codes "end\n"))))

-- The text is that of a session in which further rows are taken in turn after those of the matrix. It ends with the
-- tree and the order of the base rows and the accepted rows.
pub record IsSessionText (kind : Kind) (m : RowList) (rows : List (List ℕ)) (text : List ℕ) : Type 0 where
  pub outcomes : List Outcome
  pub side : SideValue
  pub in_turn : AreOutcomes m 0 rows outcomes
  pub shows : ShowsAllOrders (matrix_at_end m rows outcomes) side
  pub text_is : text ≡ session_text kind m.columns outcomes side

-- the status and the text tell how a matrix is extended: where it has no valid order, as `solve` does, and else as a
-- session
abbrev pub IsExtensionReply : Kind → RowList → List (List ℕ) → ℕ → List ℕ → Type 0
IsExtensionReply kind m rows status text =
    ((HasValidOrder m.columns m.rows → ⊥) × (status ≡ 1) × IsVerdictReply (plain kind m) 1 text) ⊎ (HasValidOrder m.columns m.rows × (status ≡ 0) × IsSessionText kind m rows text)

-- each further row has one outcome
abbrev pub OutcomesLaw : Type 0
OutcomesLaw = (m : RowList) (refusals : ℕ) (rows : List (List ℕ)) (outcomes : List Outcome) → AreOutcomes m refusals rows outcomes → length outcomes ≡ length rows
