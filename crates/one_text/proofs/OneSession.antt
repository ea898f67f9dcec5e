-- Two sessions over the same further rows.
use Rattle.std.proofs.Common.{◌≡◌, ◌∙◌, ◌⊎◌, inl, inr, ℕ, ◌+◌, List, [], ◌∷◌, ◌++◌, Some, None, codes, refl, sym, ap, subst, arith}
use Rattle.std.specs.Fmt.{decimal}
use Rattle.row_model.specs.Rows.{RowList}
use Rattle.row_model.specs.declared.kind.Kind.{Kind}
use Rattle.tree_theory.specs.CanonicalLaws.{CanonicalTreeLaw}
use Rattle.text_parts.specs.Text.{counted_cycle}
use Rattle.text_parts.specs.Numbered.{numbered}
use Rattle.verdict_text.specs.Text.{kind_line, columns_line, side_text}
use Rattle.verdict_text.specs.Verdict.{SideValue}
use Rattle.verdict_replies.specs.Verdicts.{ShowsAllOrders}
use Rattle.solve_replies.specs.Sessions.{Outcome, accepted, refused, AreOutcomes, matrix_after, matrix_at_end, outcome_text, session_text, IsSessionText}
use Rattle.one_text.specs.One.{TellsCycle}
use Rattle.one_text.proofs.Lines.{behind, before, itself}
use Rattle.one_text.proofs.OneSolution.{one_side}

-- one of the rows is refused with a cycle
HasCycle : List Outcome → Type 0
HasCycle [] = ⊥
HasCycle (accepted ∷ outcomes) = HasCycle outcomes
HasCycle (refused (Some lines) ∷ outcomes) = Unit {0}
HasCycle (refused None ∷ outcomes) = HasCycle outcomes

-- the first refusals are explained, so two sessions have the same outcomes, or each has one with a cycle
outcomes_alike : (m : RowList) (rows : List (List ℕ)) (xs ys : List Outcome) → AreOutcomes m 0 rows xs → AreOutcomes m 0 rows ys → (xs ≡ ys) ⊎ (HasCycle xs × HasCycle ys)
unfolding HasCycle
outcomes_alike m [] [] [] here there = inl refl
outcomes_alike m [] [] (_ ∷ _) here there = absurd there
outcomes_alike m [] (_ ∷ _) ys here there = absurd here
outcomes_alike m (row ∷ rows) [] ys here there = absurd here
outcomes_alike m (row ∷ rows) (_ ∷ _) [] here there = absurd there
outcomes_alike m (row ∷ rows) (accepted ∷ xs) (accepted ∷ ys) here there =
    elim (outcomes_alike (matrix_after m row accepted) rows xs ys here.1 there.1) [
      | inl same ↦ inl (ap (λ zs. accepted ∷ zs) same)
      | inr cycles ↦ inr cycles
    ]
outcomes_alike m (row ∷ rows) (accepted ∷ xs) (refused cycle ∷ ys) here there = absurd (there.0.0 here.0)
outcomes_alike m (row ∷ rows) (refused cycle ∷ xs) (accepted ∷ ys) here there = absurd (here.0.0 there.0)
outcomes_alike m (row ∷ rows) (refused (Some lines) ∷ xs) (refused (Some cycle) ∷ ys) here there = inr (tt, tt)
outcomes_alike m (row ∷ rows) (refused (Some lines) ∷ xs) (refused None ∷ ys) here there = absurd (omega (arith, there.0.1))
outcomes_alike m (row ∷ rows) (refused None ∷ xs) (refused cycle ∷ ys) here there = absurd (omega (arith, here.0.1))

-- the text of the outcomes has the lines of that cycle
tells : (n : ℕ) (outcomes : List Outcome) → HasCycle outcomes → TellsCycle (numbered outcome_text n outcomes)
unfolding HasCycle
tells n [] has = absurd has
tells n (accepted ∷ outcomes) has =
    let rest = tells (n + 1) outcomes has in (rest.0, behind (outcome_text n accepted) (numbered outcome_text (n + 1) outcomes) (counted_cycle rest.0) rest.1)
tells n (refused (Some lines) ∷ outcomes) has =
    let cycle = counted_cycle lines in
    (lines, before (outcome_text n (refused (Some lines))) cycle (numbered outcome_text (n + 1) outcomes) (behind (decimal n) (codes " no\n" ++ cycle) cycle (behind (codes " no\n") cycle cycle (itself cycle))))
tells n (refused None ∷ outcomes) has =
    let rest = tells (n + 1) outcomes has in (rest.0, behind (outcome_text n (refused None)) (numbered outcome_text (n + 1) outcomes) (counted_cycle rest.0) rest.1)

session_tells : (kind : Kind) (c : ℕ) (outcomes : List Outcome) (side : SideValue) → HasCycle outcomes → TellsCycle (session_text kind c outcomes side)
unfolding session_text
session_tells kind c outcomes side has =
    let rows = numbered outcome_text 1 outcomes in
    let end = side_text side ++ codes "end\n" in
    let told = tells 1 outcomes has in
    let cycle = counted_cycle told.0 in (
      told.0,
      behind (codes "pq-extend 1\n") (kind_line kind ++ (columns_line (c ∷ []) ++ (rows ++ end))) cycle
          (behind (kind_line kind) (columns_line (c ∷ []) ++ (rows ++ end)) cycle (behind (columns_line (c ∷ [])) (rows ++ end) cycle (before rows cycle end told.1))),
    )

pub one_session : CanonicalTreeLaw → (kind : Kind) (m : RowList) (rows : List (List ℕ)) (text others : List ℕ) → IsSessionText kind m rows text → IsSessionText kind m rows others → (text ≡ others) ⊎ (TellsCycle text × TellsCycle others)
one_session one_tree kind m rows text others here there =
    elim (outcomes_alike m rows here.outcomes there.outcomes here.in_turn there.in_turn) [
      | inl same ↦
          let end = matrix_at_end m rows there.outcomes in
          let side = one_side one_tree end here.side there.side (subst (λ zs. ShowsAllOrders (matrix_at_end m rows zs) here.side) same here.shows) there.shows in
          inl (here.text_is ∙ ap (λ zs. session_text kind m.columns zs here.side) same ∙ ap (session_text kind m.columns there.outcomes) side ∙ sym there.text_is)
      | inr cycles ↦ inr (
        subst TellsCycle (sym here.text_is) (session_tells kind m.columns here.outcomes here.side cycles.0),
        subst TellsCycle (sym there.text_is) (session_tells kind m.columns there.outcomes there.side cycles.1),
      )
    ]
