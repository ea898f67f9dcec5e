-- What `solve` wrote is the text of a verdict that passes each test, within the limit of bytes.
use Rattle.std.proofs.Common.{arith, ◌≡◌, ℕ, ◌-◌, List, Option, Some, None, refl, sym, subst}
use Rattle.std.specs.Prelude.{slice_get, IsSomeAnd}
use Rattle.row_model.specs.declared.kind.Kind.{Kind}
use Rattle.row_model.specs.declared.kind.Kind.TheVariants.{Matrix, Rows, Table, Circular, Convex, Doubly, Proper, Robinson, Clones}
use Rattle.row_model.specs.Rows.{RowList}
use Rattle.graph_model.specs.Graphs.{GraphValue, IsGraph}
use Rattle.proper_interval.specs.Models.{IsProperModel}
use Rattle.proper_interval.specs.Laws.{IntervalsLaw}
use Rattle.verdict_text.specs.Verdict.{SideValue, YesValue, Claim, yes_claim, no_claim, VerdictValue}
use Rattle.verdict_text.specs.declared.verdict.Version.{Version}
use Rattle.verdict_text.specs.declared.verdict.Version.TheVariants.{Two}
use Rattle.instance_model.specs.Instance.{InstanceValue, plain, circular, convex, doubly, proper, robinson, instance_kind, instance_columns, derived_matrix, IsPlainKind, IsSideOf, IsInstance, IsWellFormed}
use Rattle.instance_model.specs.Laws.{ValidLaw}
use Rattle.verdict_judge.specs.Laws.{IsSolvedSide, YesLaw, NoLaw}
use Rattle.verdict_judge.specs.Truth.{IsTrueAddedTo, IsTrueAdded}
use Rattle.verdict_judge.specs.Accepted.{IsAccepted}
use Rattle.verdict_replies.specs.Verdicts.{ShowsSide, ShowsSides, AddsToOrder, IsClaimOf, IsVerdictOf, IsVerdictReply, GrammarLaw, LengthLaw, ShownOrderLaw}
use Rattle.tree_theory.specs.ExactLaws.{ExactLaw}
use Rattle.commands.specs.Judgements.{HasVerdict}
use Rattle.commands.specs.Passed.{TiedSideLaw}

-- what a matrix adds to its side is true
true_to_matrix : (kind : Kind) (m : RowList) (value : YesValue) (side : Option SideValue) → IsPlainKind kind → IsSomeAnd side (λ s. AddsToOrder (plain kind m) s.order value.added)
    → IsSomeAnd side (IsTrueAddedTo kind m.rows value)
true_to_matrix kind m value None h adds = absurd adds
true_to_matrix Matrix m value (Some side) h adds = tt
true_to_matrix Rows m value (Some side) h adds = tt
true_to_matrix Table m value (Some side) h adds = tt
true_to_matrix Clones m value (Some side) h adds = (adds.1, adds.2)
true_to_matrix Circular m value (Some side) h adds = absurd h
true_to_matrix Convex m value (Some side) h adds = absurd h
true_to_matrix Doubly m value (Some side) h adds = absurd h
true_to_matrix Proper m value (Some side) h adds = absurd h
true_to_matrix Robinson m value (Some side) h adds = absurd h

-- the intervals of a graph are a proper model
true_model : ShownOrderLaw → ValidLaw → IntervalsLaw → (g : GraphValue) (value : YesValue) (side : Option SideValue) → IsGraph g → IsSomeAnd side (ShowsSide (proper g) 1) → IsSomeAnd side (λ s. AddsToOrder (proper g) s.order value.added)
    → IsProperModel g value.added.intervals
true_model shown valid_textbook intervals_fit g value None formed shows adds = absurd adds
true_model shown valid_textbook intervals_fit g value (Some side) formed shows adds =
    intervals_fit g side.order value.added.intervals formed (valid_textbook (proper g) 1 side.order formed (omega arith, omega arith) (shown (derived_matrix (proper g) 1) side shows)) adds.0

pub added_true : ShownOrderLaw → ValidLaw → IntervalsLaw → (i : InstanceValue) (value : YesValue) → IsInstance i → IsWellFormed i → ShowsSides i value.sides → IsSomeAnd (slice_get value.sides 0) (λ side. AddsToOrder i side.order value.added)
    → IsTrueAdded i value
added_true shown valid models (plain kind m) value h formed shows adds = true_to_matrix kind m value (slice_get value.sides 0) h.0 adds
added_true shown valid models (circular m) value h formed shows adds = tt
added_true shown valid models (convex g) value h formed shows adds = tt
added_true shown valid models (doubly g) value h formed shows adds = tt
added_true shown valid models (proper g) value h formed shows adds = true_model shown valid models g value (slice_get value.sides 0) formed (shows.each 1 (omega arith, omega arith)) adds
added_true shown valid models (robinson d) value h formed shows adds = tt

-- a tree whose frontiers are the valid orders is tied to the rows
pub tied_side : ExactLaw → TiedSideLaw
tied_side exact m side shows = exact m.columns m.rows side.tree shows.proper shows.orders

module _ (exact : ExactLaw) (shown : ShownOrderLaw) (valid_textbook : ValidLaw) (models : IntervalsLaw) (yes_law : YesLaw) (no_law : NoLaw) (i : InstanceValue) (h : IsInstance i) (formed : IsWellFormed i) where
  solved_side : (version : Version) → version ≡ Two → (s : ℕ) (side : Option SideValue) → IsSideOf i s → IsSomeAnd side (ShowsSide i s) → IsSomeAnd side (IsSolvedSide version i s)
  solved_side version two s None inside shows = absurd shows
  solved_side version two s (Some side) inside shows = subst (λ v. IsSolvedSide v i s side) (sym two) (valid_textbook i s side.order formed inside (shown (derived_matrix i s) side shows), tied_side exact (derived_matrix i s) side shows)

  accepted_claim : (v : VerdictValue) (claim : Claim) → v.claim ≡ claim → v.version ≡ Two → v.kind ≡ instance_kind i → v.columns ≡ instance_columns i → IsClaimOf i claim → IsAccepted i v
  accepted_claim v (yes_claim value) is two kind columns true =
      yes_law i v value kind columns is (λ s inside. solved_side v.version two s (slice_get value.sides (s - 1)) inside (true.0.each s inside))
      (added_true shown valid_textbook models i value h formed true.0 true.1)
  accepted_claim v (no_claim s lines) is two kind columns true = no_law i v s lines kind columns is true.1

  pub true_accepted : (v : VerdictValue) → IsVerdictOf i v → IsAccepted i v
  true_accepted v true = accepted_claim v v.claim refl true.version true.kind true.columns true.claim

  -- the text of a reply to `solve`
  pub solved_accepted : GrammarLaw → LengthLaw → (status : ℕ) (text : List ℕ) → IsVerdictReply i status text → HasVerdict text (IsAccepted i)
  solved_accepted in_grammar length status text reply =
      let v = reply.verdict in
      let grammar = in_grammar i v h formed reply.counts reply.holds in
      subst (λ t. HasVerdict t (IsAccepted i)) (sym reply.text_is) (length i v h formed grammar reply.holds, (v, grammar, refl, true_accepted v reply.holds))
