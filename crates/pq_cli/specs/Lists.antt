-- What the text of a list shows.
use Rattle.std.specs.Prelude.{◌≡◌, ◌↔◌, ℕ, List, [], ◌∷◌}
use Rattle.column_order.specs.Orders.{HasValidOrder}
use Rattle.row_model.specs.Rows.{RowList}
use Rattle.row_model.specs.declared.kind.Kind.{Kind}
use Rattle.row_model.specs.declared.refusal.Read.TheVariants as read
use Rattle.instance_model.specs.Instance.{plain}
use Rattle.command_input.specs.Words.{Solve, ListOrders}
use Rattle.command_input.specs.Instances.{instance_of}
use Rattle.solve_replies.specs.Lists.{IsListText}
use Rattle.pq_cli.specs.Replies.{Replies}

-- a reply to `list` has status 0 exactly where the matrix in the file has a valid order, and else status 1
abbrev pub ListStatusLaw : Type 0
ListStatusLaw =
    (kind : Kind) (file bytes text : List ℕ) (count status : ℕ) (m : RowList) →
    instance_of kind bytes ≡ read.Ok (plain kind m) →
    Replies (ListOrders kind file count) (bytes ∷ []) status text →
    ((status ≡ 0) ↔ HasValidOrder m.columns m.rows) × ((status ≡ 1) ↔ (HasValidOrder m.columns m.rows → ⊥))

-- with status 0 the text lists the first valid orders, each once, and `more no` says that there are no others
abbrev pub ListLaw : Type 0
ListLaw =
    (kind : Kind) (file bytes text : List ℕ) (count : ℕ) (m : RowList) →
    instance_of kind bytes ≡ read.Ok (plain kind m) →
    Replies (ListOrders kind file count) (bytes ∷ []) 0 text →
    IsListText kind m count text

-- where the matrix has no valid order, the reply is one that `solve` gives on the same bytes
abbrev pub NoListLaw : Type 0
NoListLaw =
    (kind : Kind) (file other bytes text : List ℕ) (count : ℕ) →
    Replies (ListOrders kind file count) (bytes ∷ []) 1 text →
    Replies (Solve kind other) (bytes ∷ []) 1 text
