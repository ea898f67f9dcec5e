-- What a reply to `extend` tells at its end.
use Rattle.std.proofs.Common.{◌≡◌, ◌∙◌, ℕ, List, [], ◌∷◌, sym, ap, subst, inl, inr, arith}
use Rattle.row_model.specs.Rows.{RowList}
use Rattle.row_model.specs.declared.kind.Kind.{Kind}
use Rattle.row_model.specs.declared.refusal.Read.{Read}
use Rattle.row_model.specs.declared.refusal.Read.TheVariants as read
use Rattle.matrix_read.specs.Sparse.{further}
use Rattle.instance_model.specs.Instance.{plain, derived_matrix}
use Rattle.command_input.specs.Words.{Extend}
use Rattle.command_input.specs.Instances.{instance_of}
use Rattle.pq_cli.specs.Replies.{Replies}
use Rattle.verdict_replies.specs.Verdicts.{ShowsAllOrders}
use Rattle.solve_replies.specs.Sessions.{Outcome, accepted, refused, AreOutcomes, matrix_after, refusals_after, matrix_at_end, IsSessionText, IsExtensionReply}
use Rattle.one_text.specs.Told.{at_end, GrowsTo, ExtendsTo, TellsAt}
use Rattle.one_text.proofs.Sides.{Shown, same_read}

-- the matrix that further rows lead to is the one at the end of their outcomes
grown_is : (m grown : RowList) (refusals : ℕ) (rows : List (List ℕ)) (outcomes : List Outcome) → AreOutcomes m refusals rows outcomes → GrowsTo m rows grown → grown ≡ matrix_at_end m rows outcomes
grown_is m grown refusals [] outcomes all grows = grows
grown_is m grown refusals (row ∷ rows) [] all grows = absurd all
grown_is m grown refusals (row ∷ rows) (accepted ∷ outcomes) all (inl taken) = grown_is (matrix_after m row accepted) grown refusals rows outcomes all.1 taken.1
grown_is m grown refusals (row ∷ rows) (accepted ∷ outcomes) all (inr left) = absurd (left.0 all.0)
grown_is m grown refusals (row ∷ rows) (refused cycle ∷ outcomes) all (inl taken) = absurd (all.0.0 taken.0)
grown_is m grown refusals (row ∷ rows) (refused cycle ∷ outcomes) all (inr left) = grown_is m grown (refusals_after refusals (refused cycle)) rows outcomes all.1 left.1

-- with status 0 the text is that of a session
session_of : (kind : Kind) (m : RowList) (rows : List (List ℕ)) (text : List ℕ) → IsExtensionReply kind m rows 0 text → IsSessionText kind m rows text
session_of kind m rows text (inl without) = absurd (omega (arith, without.1))
session_of kind m rows text (inr within) = within.2

-- further rows are read as one matrix
abbrev matrix_or : RowList → Read RowList → RowList
matrix_or other (read.Ok m) = m
matrix_or other (read.Refused refusal) = other

-- a reply to `extend` is a session over the matrices that are read
extended : (kind : Kind) (file rows bytes given text : List ℕ) (m n : RowList) → instance_of kind bytes ≡ read.Ok (plain kind m) → further m.columns given ≡ read.Ok n
    → Replies (Extend kind file rows) (bytes ∷ given ∷ []) 0 text → IsSessionText kind m n.rows text
unfolding Replies
extended kind file rows bytes given text m n is over reply =
    let base : reply.0 ≡ m = ap (λ i. derived_matrix i 1) (same_read kind bytes (plain kind m) (plain kind reply.0) is reply.2) in
    let read_over : further m.columns given ≡ read.Ok reply.1 = subst (λ (k : RowList). further k.columns given ≡ read.Ok reply.1) base reply.3 in
    let same : reply.1 ≡ n = ap (matrix_or n) (sym read_over ∙ over) in
    subst (λ (k : RowList). IsSessionText kind m k.rows text) same (subst (λ (k : RowList). IsSessionText kind k reply.1.rows text) base (session_of kind reply.0 reply.1.rows text reply.4))

pub ended : (text : List ℕ) (m : RowList) → ExtendsTo text m → Shown m (TellsAt text at_end)
ended text m h =
    let session = extended h.kind h.file h.rows h.bytes h.given text h.base h.more h.found h.found_more h.reply in
    record {
      side = session.side;
      shows = subst (λ k. ShowsAllOrders k session.side) (sym (grown_is h.base m 0 h.more.rows session.outcomes session.in_turn h.grows)) session.shows;
      tells = (h.kind, h.base.columns, session.outcomes, session.text_is);
    }
