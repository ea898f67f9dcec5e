-- What the text of a session shows.
use Rattle.std.proofs.Common.{◌≡◌, ◌∙◌, ◌↔◌, ℕ, zero, suc, ◌<◌, List, [], ◌∷◌, ◌++◌, length, take, slice_get, Option, Some, None, refl, sym, ap, subst, inl, inr, arith}
use Rattle.std.specs.Prelude.{All}
use Rattle.std.proofs.lemmas.List.Elements.{All-nil, All-cons, All-head, All-tail, All-push}
use Rattle.std.proofs.lemmas.Option.{none-some, same_Some}
use Rattle.column_order.specs.Orders.{Keeps, IsValidOrder, HasValidOrder}
use Rattle.row_model.specs.Rows.{RowList}
use Rattle.row_model.specs.declared.graph.Line.{Line}
use Rattle.row_model.specs.declared.kind.Kind.{Kind}
use Rattle.row_model.specs.declared.refusal.Read.{Read}
use Rattle.row_model.specs.declared.refusal.Read.TheVariants as read
use Rattle.matrix_read.specs.Sparse.{further}
use Rattle.instance_model.specs.Instance.{plain, derived_matrix}
use Rattle.command_input.specs.Instances.{instance_of}
use Rattle.pq_cli.specs.Extend.{IsAcceptedAt, IsRefusedAt, KeepsAccepted, ShowsSession, ExtendStatusLaw, SessionLaw, BaseLaw}
use Rattle.pq_cli.specs.Replies.{Replies}
use Rattle.verdict_replies.specs.Verdicts.{ShownOrderLaw}
use Rattle.solve_replies.specs.Sessions.{IsSessionText, IsExtensionReply, OutcomesLaw, Outcome, accepted, refused, Explains, IsOutcome, matrix_after, refusals_after, AreOutcomes, matrix_at_end}
use Rattle.pq_cli.proofs.Reading.{same_read}

-- an order keeps rows and one more where it keeps each of them
all_parts : (P : List ℕ → Type 0) (rows : List (List ℕ)) (row : List ℕ) → All P (rows ++ row ∷ []) → All P rows × P row
all_parts P [] row h = (All-nil P, All-head P row [] h)
all_parts P (x ∷ xs) row h =
    let rest = all_parts P xs row (All-tail P x (xs ++ row ∷ []) h) in
    (All-cons P x xs (All-head P x (xs ++ row ∷ []) h) rest.0, rest.1)

valid_parts : (c : ℕ) (rows : List (List ℕ)) (row o : List ℕ) → IsValidOrder c (rows ++ row ∷ []) o → IsValidOrder c rows o × Keeps o row
valid_parts c rows row o v = let parts = all_parts (Keeps o) rows row v.kept in (record { order = v.order; kept = parts.0 }, parts.1)

valid_push : (c : ℕ) (rows : List (List ℕ)) (row o : List ℕ) → IsValidOrder c rows o → Keeps o row → IsValidOrder c (rows ++ row ∷ []) o
valid_push c rows row o v k = record { order = v.order; kept = All-push (Keeps o) rows row v.kept k }

-- an order that keeps the accepted rows among the first n + 1 keeps those among the next n after the first
not_accepted : (cycle : Option (List Line)) → Some (refused cycle) ≡ Some accepted → ⊥
not_accepted cycle e = absurd (cc)

later_kept : (m : RowList) (row : List ℕ) (outcome : Outcome) (rows : List (List ℕ)) (outcomes : List Outcome) (n : ℕ) (o : List ℕ) → KeepsAccepted m (row ∷ rows) (outcome ∷ outcomes) (suc n) o
    → KeepsAccepted (matrix_after m row outcome) rows outcomes n o
later_kept m row accepted rows outcomes n o h =
    record { base = valid_push m.columns m.rows row o h.base (h.accepted 0 row (omega arith) (refl, refl)); accepted = λ i r l at. h.accepted (suc i) r (omega (arith, l)) at }
later_kept m row (refused cycle) rows outcomes n o h = record { base = h.base; accepted = λ i r l at. h.accepted (suc i) r (omega (arith, l)) at }

sooner_kept : (m : RowList) (row : List ℕ) (outcome : Outcome) (rows : List (List ℕ)) (outcomes : List Outcome) (n : ℕ) (o : List ℕ) → KeepsAccepted (matrix_after m row outcome) rows outcomes n o
    → KeepsAccepted m (row ∷ rows) (outcome ∷ outcomes) (suc n) o
sooner_kept m row accepted rows outcomes n o h =
    let parts = valid_parts m.columns m.rows row o h.base in
    record { base = parts.0; accepted = at }
  where
    at : (i : ℕ) (r : List ℕ) → i < suc n → IsAcceptedAt (row ∷ rows) (accepted ∷ outcomes) i r → Keeps o r
    at zero r l e = subst (Keeps o) (same_Some row r e.0) (valid_parts m.columns m.rows row o h.base).1
    at (suc i) r l e = h.accepted i r (omega (arith, l)) e
sooner_kept m row (refused cycle) rows outcomes n o h = record { base = h.base; accepted = at }
  where
    at : (i : ℕ) (r : List ℕ) → i < suc n → IsAcceptedAt (row ∷ rows) (refused cycle ∷ outcomes) i r → Keeps o r
    at zero r l e = absurd (not_accepted cycle e.1)
    at (suc i) r l e = h.accepted i r (omega (arith, l)) e

-- the valid orders of the matrix at the end
end_kept : (m : RowList) (refusals : ℕ) (rows : List (List ℕ)) (outcomes : List Outcome) (o : List ℕ) → AreOutcomes m refusals rows outcomes
    → IsValidOrder (matrix_at_end m rows outcomes).columns (matrix_at_end m rows outcomes).rows o ↔ KeepsAccepted m rows outcomes (length rows) o
end_kept m refusals [] outcomes o all = (λ v. record { base = v; accepted = λ i r l at. absurd (omega (arith, l)) }, λ h. h.base)
end_kept m refusals (row ∷ rows) [] o all = absurd all
end_kept m refusals (row ∷ rows) (outcome ∷ outcomes) o all =
    let rest = end_kept (matrix_after m row outcome) (refusals_after refusals outcome) rows outcomes o all.1 in
    (λ v. sooner_kept m row outcome rows outcomes (length rows) o (rest.0 v), λ h. rest.1 (later_kept m row outcome rows outcomes (length rows) o h))

-- a refused row is kept by no valid order that keeps the accepted rows before it
none_kept : (m : RowList) (refusals : ℕ) (row : List ℕ) (outcome : Outcome) (cycle : Option (List Line)) → outcome ≡ refused cycle → IsOutcome m refusals row outcome → HasValidOrder m.columns (m.rows ++ row ∷ []) → ⊥
none_kept m refusals row accepted cycle e one has = absurd (cc)
none_kept m refusals row (refused other) cycle e one has = one.0 has

refused_kept : (m : RowList) (refusals : ℕ) (rows : List (List ℕ)) (outcomes : List Outcome) → AreOutcomes m refusals rows outcomes
    → (i : ℕ) (row o : List ℕ) → IsRefusedAt rows outcomes i row → KeepsAccepted m rows outcomes i o → Keeps o row → ⊥
refused_kept m refusals [] outcomes all i row o at h k = absurd (cc)
refused_kept m refusals (first ∷ rows) [] all i row o at h k = absurd all
refused_kept m refusals (first ∷ rows) (outcome ∷ outcomes) all zero row o at h k =
    none_kept m refusals first outcome at.1.0 (same_Some outcome (refused at.1.0) at.1.1) all.0 (o, valid_push m.columns m.rows first o h.base (subst (Keeps o) (sym (same_Some first row at.0)) k))
refused_kept m refusals (first ∷ rows) (outcome ∷ outcomes) all (suc i) row o at h k =
    refused_kept (matrix_after m first outcome) (refusals_after refusals outcome) rows outcomes all.1 i row o at (later_kept m first outcome rows outcomes i o h) k

-- what explains a refusal is a cycle that blames the refused row
explained : (m : RowList) (refusals : ℕ) (row : List ℕ) (outcome : Outcome) (lines : List Line) → outcome ≡ refused (Some lines) → IsOutcome m refusals row outcome → Explains m row lines
explained m refusals row accepted lines e one = absurd (cc)
explained m refusals row (refused None) lines e one = absurd (cc)
explained m refusals row (refused (Some cycle)) lines e one =
    let same : cycle ≡ lines = cc in
    subst (Explains m row) same one.1.1

refused_explained : (m : RowList) (refusals : ℕ) (rows : List (List ℕ)) (outcomes : List Outcome) → AreOutcomes m refusals rows outcomes
    → (i : ℕ) (row : List ℕ) (lines : List Line) → slice_get rows i ≡ Some row → slice_get outcomes i ≡ Some (refused (Some lines))
    → Explains (matrix_at_end m (take i rows) outcomes) row lines
refused_explained m refusals [] outcomes all i row lines at e = absurd (none-some row at)
refused_explained m refusals (first ∷ rows) [] all i row lines at e = absurd all
refused_explained m refusals (first ∷ rows) (outcome ∷ outcomes) all zero row lines at e =
    subst (λ r. Explains m r lines) (same_Some first row at) (explained m refusals first outcome lines (same_Some outcome (refused (Some lines)) e) all.0)
refused_explained m refusals (first ∷ rows) (outcome ∷ outcomes) all (suc i) row lines at e =
    refused_explained (matrix_after m first outcome) (refusals_after refusals outcome) rows outcomes all.1 i row lines at e

-- a session's text shows what became of each row
shows : ShownOrderLaw → OutcomesLaw → (kind : Kind) (m : RowList) (rows : List (List ℕ)) (text : List ℕ) → IsSessionText kind m rows text → ShowsSession kind m rows text
shows shown same_count kind m rows text s =
    record {
      outcomes = s.outcomes;
      side = s.side;
      text_is = s.text_is;
      each = same_count m 0 rows s.outcomes s.in_turn;
      orders = λ o. let kept = end_kept m 0 rows s.outcomes o s.in_turn in (λ f. kept.0 ((s.shows.orders o).0 f), λ h. (s.shows.orders o).1 (kept.1 h));
      order = (end_kept m 0 rows s.outcomes s.side.order s.in_turn).0 (shown (matrix_at_end m rows s.outcomes) s.side s.shows);
      refusals = refused_kept m 0 rows s.outcomes s.in_turn;
      cycles = refused_explained m 0 rows s.outcomes s.in_turn;
    }

-- the matrix that a reply speaks of is the one in the first file
same_base : (kind : Kind) (bytes : List ℕ) (m n : RowList) → instance_of kind bytes ≡ read.Ok (plain kind m) → instance_of kind bytes ≡ read.Ok (plain kind n) → n ≡ m
same_base kind bytes m n e f = ap (λ i. derived_matrix i 1) (same_read kind bytes (plain kind m) (plain kind n) e f)

-- the status of an extension
extended_status : (kind : Kind) (m : RowList) (rows : List (List ℕ)) (status : ℕ) (text : List ℕ) → IsExtensionReply kind m rows status text
    → ((status ≡ 0) ↔ HasValidOrder m.columns m.rows) × ((status ≡ 1) ↔ (HasValidOrder m.columns m.rows → ⊥))
extended_status kind m rows status text (inl without) = ((λ e. absurd (omega (arith, e, without.1)), λ has. absurd (without.0 has)), (λ e. without.0, λ none. without.1))
extended_status kind m rows status text (inr within) = ((λ e. within.0, λ has. within.1), (λ e. absurd (omega (arith, e, within.1)), λ none. absurd (none within.0)))

extended_session : (kind : Kind) (m : RowList) (rows : List (List ℕ)) (text : List ℕ) → IsExtensionReply kind m rows 0 text → IsSessionText kind m rows text
extended_session kind m rows text (inl without) = absurd (omega (arith, without.1))
extended_session kind m rows text (inr within) = within.2

pub extend_law : ExtendStatusLaw
unfolding Replies
extend_law kind file rows bytes given text status m is reply =
    subst (λ (k : RowList). ((status ≡ 0) ↔ HasValidOrder k.columns k.rows) × ((status ≡ 1) ↔ (HasValidOrder k.columns k.rows → ⊥))) (same_base kind bytes m reply.0 is reply.2)
    (extended_status kind reply.0 reply.1.rows status text reply.4)

-- further rows are read as one matrix
abbrev matrix_or : RowList → Read RowList → RowList
matrix_or other (read.Ok m) = m
matrix_or other (read.Refused refusal) = other

pub session_law : ShownOrderLaw → OutcomesLaw → SessionLaw
unfolding Replies
session_law shown same_count kind file rows bytes given text m n is over reply =
    let base : reply.0 ≡ m = same_base kind bytes m reply.0 is reply.2 in
    let read_over : further m.columns given ≡ read.Ok reply.1 = subst (λ (k : RowList). further k.columns given ≡ read.Ok reply.1) base reply.3 in
    let same : reply.1 ≡ n = ap (matrix_or n) (sym read_over ∙ over) in
    shows shown same_count kind m n.rows text (subst (λ (k : RowList). IsSessionText kind m k.rows text) same (subst (λ (k : RowList). IsSessionText kind k reply.1.rows text) base (extended_session kind reply.0 reply.1.rows text reply.4)))

pub base_law : BaseLaw
unfolding Replies
base_law kind file rows other bytes given text reply = elim reply.4 [
  | inl without ↦ (plain kind reply.0, reply.2, without.2)
  | inr within ↦ absurd (omega (arith, within.1))
]
