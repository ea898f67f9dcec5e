-- What the text of a session shows.
use Rattle.std.specs.Prelude.{◌≡◌, ◌↔◌, ℕ, ◌<◌, List, [], ◌∷◌, length, take, slice_get, Option, Some}
use Rattle.column_order.specs.Orders.{Keeps, IsValidOrder, HasValidOrder}
use Rattle.row_model.specs.Rows.{RowList}
use Rattle.row_model.specs.declared.graph.Line.{Line}
use Rattle.row_model.specs.declared.kind.Kind.{Kind}
use Rattle.row_model.specs.declared.refusal.Read.TheVariants as read
use Rattle.matrix_read.specs.Sparse.{further}
use Rattle.pq_tree.specs.Outline.{IsFrontier}
use Rattle.verdict_text.specs.Verdict.{SideValue}
use Rattle.instance_model.specs.Instance.{plain}
use Rattle.command_input.specs.Words.{Solve, Extend}
use Rattle.command_input.specs.Instances.{instance_of}
use Rattle.pq_cli.specs.Replies.{Replies}
use Rattle.solve_replies.specs.Sessions.{Outcome, accepted, refused, Explains, matrix_at_end, session_text}

-- the i-th of some rows, from 0, is this one, and it was accepted
abbrev pub IsAcceptedAt : List (List ℕ) → List Outcome → ℕ → List ℕ → Type 0
IsAcceptedAt rows outcomes i row = (slice_get rows i ≡ Some row) × (slice_get outcomes i ≡ Some accepted)

-- the i-th of some rows, from 0, is this one, and it was refused
abbrev pub IsRefusedAt : List (List ℕ) → List Outcome → ℕ → List ℕ → Type 0
IsRefusedAt rows outcomes i row = (slice_get rows i ≡ Some row) × ((cycle : Option (List Line)) × (slice_get outcomes i ≡ Some (refused cycle)))

-- a valid order of the matrix that keeps each further row which was accepted among the first n
pub record KeepsAccepted (m : RowList) (rows : List (List ℕ)) (outcomes : List Outcome) (n : ℕ) (o : List ℕ) : Type 0 where
  pub base : IsValidOrder m.columns m.rows o
  pub accepted : (i : ℕ) (row : List ℕ) → i < n → IsAcceptedAt rows outcomes i row → Keeps o row

-- What the text of a session shows. Each further row has an outcome. The frontiers of the tree at its end are exactly
-- the valid orders of the matrix that keep each accepted row, and the order is one of them. No valid order that keeps
-- the accepted rows before a refused row keeps that one. Each cycle that is printed is a short odd cycle of the rows of
-- the matrix, those accepted before the refused row, and that row, which is a reason of it.
pub record ShowsSession (kind : Kind) (m : RowList) (rows : List (List ℕ)) (text : List ℕ) : Type 0 where
  pub outcomes : List Outcome
  pub side : SideValue
  pub text_is : text ≡ session_text kind m.columns outcomes side
  pub each : length outcomes ≡ length rows
  pub orders : (o : List ℕ) → IsFrontier side.tree o ↔ KeepsAccepted m rows outcomes (length rows) o
  pub order : KeepsAccepted m rows outcomes (length rows) side.order
  pub refusals : (i : ℕ) (row o : List ℕ) → IsRefusedAt rows outcomes i row → KeepsAccepted m rows outcomes i o → Keeps o row → ⊥
  pub cycles : (i : ℕ) (row : List ℕ) (lines : List Line) → slice_get rows i ≡ Some row → slice_get outcomes i ≡ Some (refused (Some lines)) →
      Explains (matrix_at_end m (take i rows) outcomes) row lines

-- a reply to `extend` has status 0 exactly where the matrix in the first file has a valid order, and else status 1
abbrev pub ExtendStatusLaw : Type 0
ExtendStatusLaw =
    (kind : Kind) (file rows bytes given text : List ℕ) (status : ℕ) (m : RowList) →
    instance_of kind bytes ≡ read.Ok (plain kind m) →
    Replies (Extend kind file rows) (bytes ∷ given ∷ []) status text →
    ((status ≡ 0) ↔ HasValidOrder m.columns m.rows) × ((status ≡ 1) ↔ (HasValidOrder m.columns m.rows → ⊥))

-- with status 0 the text is that of a session, and shows what became of each further row
abbrev pub SessionLaw : Type 0
SessionLaw =
    (kind : Kind) (file rows bytes given text : List ℕ) (m n : RowList) →
    instance_of kind bytes ≡ read.Ok (plain kind m) →
    further m.columns given ≡ read.Ok n →
    Replies (Extend kind file rows) (bytes ∷ given ∷ []) 0 text →
    ShowsSession kind m n.rows text

-- where the matrix has no valid order, the reply is one that `solve` gives on the same bytes
abbrev pub BaseLaw : Type 0
BaseLaw =
    (kind : Kind) (file rows other bytes given text : List ℕ) →
    Replies (Extend kind file rows) (bytes ∷ given ∷ []) 1 text →
    Replies (Solve kind other) (bytes ∷ []) 1 text
