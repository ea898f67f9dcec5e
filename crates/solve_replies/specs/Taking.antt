-- What a session's answers say of further rows.
use Rattle.std.specs.Prelude.{◌≡◌, ℕ, List, [], ◌∷◌, ◌++◌, Some, None, codes}
use Rattle.row_model.specs.Rows.{RowList}
use Rattle.c1p_solve.specs.declared.session.Taken.{Taken}
use Rattle.c1p_solve.specs.declared.session.Taken.TheVariants as taken
use Rattle.text_parts.specs.Numbered.{numbered}
use Rattle.verdict_text.specs.Text.{side_text}
use Rattle.verdict_text.specs.Verdict.{SideValue}
use Rattle.verdict_replies.specs.Verdicts.{ShowsAllOrders}
use Rattle.solve_replies.specs.MetNodes.{AreMet}
use Rattle.solve_replies.specs.Sessions.{Outcome, accepted, refused, IsOutcome, matrix_after, refusals_after, AreOutcomes, matrix_at_end, outcome_text}

-- what became of a row
abbrev pub outcome_of : Taken → Outcome
outcome_of taken.Ok = accepted
outcome_of (taken.No None) = refused None
outcome_of (taken.No (Some cycle)) = refused (Some cycle)

-- One further row was taken, the i-th, after so many refusals: the matrix and the text are those after its outcome, and
-- so is the number of refusals.
pub record HasTakenOne (m : RowList) (refusals i : ℕ) (row : List ℕ) (after : RowList) (count : ℕ) (old new : List ℕ) : Type 0 where
  pub outcome : Outcome
  pub holds : IsOutcome m refusals row outcome
  pub matrix_is : after ≡ matrix_after m row outcome
  pub count_is : count ≡ refusals_after refusals outcome
  pub text_is : new ≡ old ++ outcome_text i outcome

-- how many rows were refused, after these outcomes
abbrev pub refusals_at_end : ℕ → List Outcome → ℕ
refusals_at_end refusals [] = refusals
refusals_at_end refusals (outcome ∷ outcomes) = refusals_at_end (refusals_after refusals outcome) outcomes

-- further rows were taken in turn: the matrix and the text are those after their outcomes, and so are the number of
-- refusals and that of the nodes that the refused rows met
pub record HasTaken (m : RowList) (further : List (List ℕ)) (after : RowList) (count met : ℕ) (old new : List ℕ) : Type 0 where
  pub outcomes : List Outcome
  pub in_turn : AreOutcomes m 0 further outcomes
  pub matrix_is : after ≡ matrix_at_end m further outcomes
  pub count_is : count ≡ refusals_at_end 0 outcomes
  pub are_met : AreMet m further outcomes met
  pub text_is : new ≡ old ++ numbered outcome_text 1 outcomes

-- the tree of all orders of the matrix was told, and the text ended
pub record HasEnded (m : RowList) (old new : List ℕ) : Type 0 where
  pub side : SideValue
  pub shows : ShowsAllOrders m side
  pub text_is : new ≡ old ++ (side_text side ++ codes "end\n")
