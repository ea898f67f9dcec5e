-- What a reply to `solve` tells of a side.
use Rattle.std.proofs.Common.{◌≡◌, ◌∙◌, ℕ, ◌-◌, List, [], ◌∷◌, Option, Some, None, refl, sym, ap, subst, arith}
use Rattle.std.specs.Prelude.{slice_get, IsSomeAnd}
use Rattle.row_model.specs.Rows.{RowList}
use Rattle.row_model.specs.declared.kind.Kind.{Kind}
use Rattle.row_model.specs.declared.refusal.Read.{Read}
use Rattle.row_model.specs.declared.refusal.Read.TheVariants as read
use Rattle.instance_model.specs.Instance.{InstanceValue, IsSideOf, derived_matrix}
use Rattle.verdict_text.specs.Verdict.{SideValue, Claim, yes_claim, no_claim}
use Rattle.verdict_judge.specs.YesTests.{HasSide}
use Rattle.command_input.specs.Words.{Solve}
use Rattle.command_input.specs.Instances.{instance_of}
use Rattle.pq_cli.specs.Replies.{Replies}
use Rattle.verdict_replies.specs.Verdicts.{ShowsAllOrders, IsClaimOf, status_of, IsVerdictReply}
use Rattle.pq_cli.specs.Solve.{IsYesAnd, InGrammarLaw}
use Rattle.one_text.specs.Told.{on_side, SolvesSide, TellsAt}

-- what is told at a spot shows the orders of the matrix
pub record Shown (m : RowList) (Tells : SideValue → Type 0) : Type 0 where
  pub side : SideValue
  pub shows : ShowsAllOrders m side
  pub tells : Tells side

-- the instance that is read, if one is
abbrev read_or : InstanceValue → Read InstanceValue → InstanceValue
read_or other (read.Ok i) = i
read_or other (read.Refused refusal) = other

-- bytes have one reading
pub same_read : (kind : Kind) (bytes : List ℕ) (i j : InstanceValue) → instance_of kind bytes ≡ read.Ok i → instance_of kind bytes ≡ read.Ok j → j ≡ i
same_read kind bytes i j e f = ap (read_or i) (sym f ∙ e)

-- a reply to `solve` is one on the instance that is read
pub solution_of : (kind : Kind) (file bytes text : List ℕ) (i : InstanceValue) → instance_of kind bytes ≡ read.Ok i → Replies (Solve kind file) (bytes ∷ []) 0 text → IsVerdictReply i 0 text
unfolding Replies
solution_of kind file bytes text i e reply = subst (λ j. IsVerdictReply j 0 text) (same_read kind bytes i reply.0 e reply.1) reply.2

-- the side that is there
picked : (m : RowList) (side : Option SideValue) → IsSomeAnd side (ShowsAllOrders m) → Shown m (λ told. IsSomeAnd side (λ s. s ≡ told))
picked m None shows = absurd shows
picked m (Some side) shows = record { side = side; shows = shows; tells = refl }

claimed : (i : InstanceValue) (s : ℕ) (claim : Claim) → IsSideOf i s → 0 ≡ status_of claim → IsClaimOf i claim
    → Shown (derived_matrix i s) (λ told. IsYesAnd claim (λ value. HasSide value s (λ side. side ≡ told)))
claimed i s (yes_claim value) inside zero true = picked (derived_matrix i s) (slice_get value.sides (s - 1)) (true.0.each s inside)
claimed i s (no_claim side lines) inside zero true = absurd (omega (arith, zero))

pub solved : InGrammarLaw → (text : List ℕ) (s : ℕ) (m : RowList) → SolvesSide text s m → Shown m (TellsAt text (on_side s))
solved grammar text s m h =
    let solution = solution_of h.kind h.file h.bytes text h.value h.found h.reply in
    let v = solution.verdict in
    let shown = claimed h.value s v.claim h.side solution.status_is solution.holds.claim in
    record { side = shown.side; shows = subst (λ k. ShowsAllOrders k shown.side) (sym h.matrix_is) shown.shows; tells = (v, grammar h.kind h.bytes h.value v h.found solution.counts solution.holds, solution.text_is, shown.tells) }
