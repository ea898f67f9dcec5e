-- Replies on sides with the same textbook orders.
use Rattle.std.proofs.Common.{◌≡◌, ◌∙◌, ◌↔◌, ℕ, ◌-◌, List, Option, Some, None, sym, subst, arith}
use Rattle.std.specs.Prelude.{slice_get, IsSomeAnd}
use Rattle.row_model.specs.Rows.{RowList}
use Rattle.pq_tree.specs.Outline.{IsFrontier}
use Rattle.tree_theory.specs.CanonicalLaws.{SameOrdersLaw}
use Rattle.verdict_text.specs.Verdict.{SideValue, Claim, yes_claim, no_claim, VerdictValue}
use Rattle.verdict_text.specs.Grammar.{IsVerdict}
use Rattle.verdict_text.specs.Text.{verdict_text}
use Rattle.instance_model.specs.Instance.{InstanceValue, IsSideOf, IsTextbookOrder, derived_matrix}
use Rattle.instance_model.specs.Laws.{IsValidFor, AreTextbookOrders}
use Rattle.verdict_judge.specs.YesTests.{HasSide}
use Rattle.verdict_replies.specs.Verdicts.{ShowsSide, IsClaimOf, ShownOrderLaw}
use Rattle.pq_cli.specs.Solve.{IsYesAnd, ShowsTextbookOrders, OrdersLaw, InGrammarLaw}
use Rattle.tree_meet.specs.Laws.{CommonRowsLaw}
use Rattle.pq_cli.specs.Meet.{MeetTextLaw}
use Rattle.one_text.specs.Told.{on_side, SolvesSide}
use Rattle.verdict_judge.specs.Exact.{IsLinear}
use Rattle.one_text.specs.Laws.{HaveSameOrders, TextbookTextLaw}
use Rattle.one_text.proofs.Sides.{solution_of}
use Rattle.one_text.proofs.Same.{same_text}

-- no two verdicts have one text
abbrev pub OneVerdictLaw : Type 0
OneVerdictLaw = (v w : VerdictValue) → IsVerdict v → IsVerdict w → verdict_text v ≡ verdict_text w → v ≡ w

-- the valid orders of a derived matrix are the textbook orders of the side
abbrev AreValid : InstanceValue → ℕ → Type 0
AreValid i s = (o : List ℕ) → IsTextbookOrder i s o ↔ IsValidFor (derived_matrix i s) o

-- where an instance is not circular, these are exactly the textbook orders
exactly : (i : InstanceValue) (s : ℕ) (P : List ℕ → Type 0) → IsLinear i → AreTextbookOrders i s P → (o : List ℕ) → IsTextbookOrder i s o ↔ P o
exactly i s P linear are = grind arith

-- a side shows the valid orders of its derived matrix and its textbook orders, so these are the same
of_side : (i : InstanceValue) (s : ℕ) (side : Option SideValue) → IsLinear i → IsSomeAnd side (ShowsSide i s) → IsSomeAnd side (ShowsTextbookOrders i s) → AreValid i s
of_side i s None linear shows textbook = absurd shows
of_side i s (Some side) linear shows textbook = λ o.
    let frontier = exactly i s (IsFrontier side.tree) linear textbook.orders o in
    (λ t. (shows.orders o).0 (frontier.0 t), λ v. frontier.1 ((shows.orders o).1 v))

of_claim : (i : InstanceValue) (s : ℕ) (claim : Claim) → IsLinear i → IsSideOf i s → IsClaimOf i claim → IsYesAnd claim (λ value. (s : ℕ) → IsSideOf i s → HasSide value s (ShowsTextbookOrders i s)) → AreValid i s
of_claim i s (yes_claim value) linear inside true textbook = of_side i s (slice_get value.sides (s - 1)) linear (true.0.each s inside) (textbook s inside)
of_claim i s (no_claim side lines) linear inside true textbook = absurd textbook

module _ (valid : ShownOrderLaw) (grammar : InGrammarLaw) (orders : OrdersLaw) (one_verdict : OneVerdictLaw) where
  -- so it is for each side of an instance that is not circular, to which a reply has status 0
  of_reply : (text : List ℕ) (s : ℕ) (m : RowList) (h : SolvesSide text s m) → IsLinear h.value → AreValid h.value s
  of_reply text s m h linear =
      let solution = solution_of h.kind h.file h.bytes text h.value h.found h.reply in
      let told = orders h.kind h.file h.bytes text h.value h.found h.reply in
      let same : told.0 ≡ solution.verdict = one_verdict told.0 solution.verdict told.1 (grammar h.kind h.bytes h.value solution.verdict h.found solution.counts solution.holds) (sym told.2 ∙ solution.text_is) in
      of_claim h.value s solution.verdict.claim linear h.side solution.holds.claim (subst (λ (v : VerdictValue). IsYesAnd v.claim (λ value. (s : ℕ) → IsSideOf h.value s → HasSide value s (ShowsTextbookOrders h.value s))) same told.3)

  pub textbook_text : CommonRowsLaw → MeetTextLaw → SameOrdersLaw → TextbookTextLaw
  textbook_text common meet one_tree text other s t m n one two linear linear_other same =
      let first = of_reply text s m one linear in
      let second = of_reply other t n two linear_other in
      let matrices : HaveSameOrders (derived_matrix one.value s) (derived_matrix two.value t) =
      λ o. (λ v. (second o).0 ((same o).0 ((first o).1 v)), λ w. (first o).0 ((same o).1 ((second o).1 w))) in
      same_text valid grammar common meet one_tree text other (on_side s) (on_side t) m n one two
      (subst (λ k. HaveSameOrders k n) (sym one.matrix_is) (subst (λ k. HaveSameOrders (derived_matrix one.value s) k) (sym two.matrix_is) matrices))
