-- What the text of a list shows.
use Rattle.std.proofs.Common.{◌≡◌, ◌↔◌, ℕ, List, ap, subst, inl, inr, arith}
use Rattle.column_order.specs.Orders.{HasValidOrder}
use Rattle.row_model.specs.Rows.{RowList}
use Rattle.row_model.specs.declared.kind.Kind.{Kind}
use Rattle.row_model.specs.declared.refusal.Read.TheVariants as read
use Rattle.instance_model.specs.Instance.{plain, derived_matrix}
use Rattle.command_input.specs.Instances.{instance_of}
use Rattle.pq_cli.specs.Lists.{ListStatusLaw, ListLaw, NoListLaw}
use Rattle.solve_replies.specs.Lists.{IsListText, IsListReply}
use Rattle.pq_cli.specs.Replies.{Replies}
use Rattle.pq_cli.proofs.Reading.{same_read}

-- the matrix that a reply speaks of is the one in the file
same_matrix : (kind : Kind) (bytes : List ℕ) (m n : RowList) → instance_of kind bytes ≡ read.Ok (plain kind m) → instance_of kind bytes ≡ read.Ok (plain kind n) → n ≡ m
same_matrix kind bytes m n e f = ap (λ i. derived_matrix i 1) (same_read kind bytes (plain kind m) (plain kind n) e f)

listed_status : (kind : Kind) (m : RowList) (k status : ℕ) (text : List ℕ) → IsListReply kind m k status text
    → ((status ≡ 0) ↔ HasValidOrder m.columns m.rows) × ((status ≡ 1) ↔ (HasValidOrder m.columns m.rows → ⊥))
listed_status kind m k status text (inl without) = ((λ e. absurd (omega (arith, e, without.1)), λ has. absurd (without.0 has)), (λ e. without.0, λ none. without.1))
listed_status kind m k status text (inr within) = ((λ e. within.0, λ has. within.1), (λ e. absurd (omega (arith, e, within.1)), λ none. absurd (none within.0)))

listed_text : (kind : Kind) (m : RowList) (k : ℕ) (text : List ℕ) → IsListReply kind m k 0 text → IsListText kind m k text
listed_text kind m k text (inl without) = absurd (omega (arith, without.1))
listed_text kind m k text (inr within) = within.2

pub status_law : ListStatusLaw
unfolding Replies
status_law kind file bytes text count status m is reply =
    subst (λ (n : RowList). ((status ≡ 0) ↔ HasValidOrder n.columns n.rows) × ((status ≡ 1) ↔ (HasValidOrder n.columns n.rows → ⊥))) (same_matrix kind bytes m reply.0 is reply.1)
    (listed_status kind reply.0 count status text reply.2)

pub list_law : ListLaw
unfolding Replies
list_law kind file bytes text count m is reply =
    subst (λ (n : RowList). IsListText kind n count text) (same_matrix kind bytes m reply.0 is reply.1) (listed_text kind reply.0 count text reply.2)

pub none_law : NoListLaw
unfolding Replies
none_law kind file other bytes text count reply = elim reply.2 [
  | inl without ↦ (plain kind reply.0, reply.1, without.2)
  | inr within ↦ absurd (omega (arith, within.1))
]
