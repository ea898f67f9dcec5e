-- What an answer on a matrix says, as a status and as a judge's.
use Rattle.std.proofs.Common.{ℕ, ◌+◌, ◌≤◌, Result, Ok, Err, refl, arith}
use Rattle.std.specs.Prelude.{IfOk, IsErrAnd}
use Rattle.pq_tree.specs.Outline.{Outline}
use Rattle.row_model.specs.Rows.{RowList}
use Rattle.row_judge.specs.Costs.{IsYesWithin}
use Rattle.row_judge.specs.Judges.{IsJudged, IsJudgedInTurn}
use Rattle.row_judge.specs.declared.Judged.{Judged}
use Rattle.row_judge.specs.declared.Judged.TheVariants.{Yes, No}
use Rattle.c1p_solve.specs.Answers.{IsAnswer, IsInTurn}
use Rattle.c1p_solve.specs.Totals.{IsTotal, answer_steps}
use Rattle.solve_replies.specs.Steps.{made_status, answer_status, solver_costs, SolvesMatrixWithin}
use Rattle.solve_replies.proofs.Centres.{unmade_within}

-- the steps of an answer
pub answered_within : (m : RowList) (t : Outline) (a : Judged) (s n : ℕ) → IsAnswer m a → IsTotal m t s n a → n ≤ s + answer_steps m → SolvesMatrixWithin m (answer_status a) s n
answered_within m t (Yes tree) s n answer total most = record { yes = λ e. omega (arith, total); no = λ e. absurd (omega (arith, e)); most = most }
answered_within m t (No cycle) s n answer total most = record { yes = λ e. absurd (omega (arith, e)); no = λ e. answer.1; most = most }

-- and where memory was refused before a step was counted
pub unsolved_within : {E : Type 0} (made : Result Judged E) (P : E → Type 0) (m : RowList) (s : ℕ) → IsErrAnd made P → SolvesMatrixWithin m (made_status answer_status made) s s
unsolved_within made P m s is = unmade_within answer_status made P m s s is (omega arith)

-- what a judge says of a matrix
pub judged : (m : RowList) (a : Judged) → IsAnswer m a → IsJudged m a
judged m (Yes tree) answer = (record { columns = answer.0.columns; canonical = answer.0.canonical; orders = answer.0.orders }, answer.1)
judged m (No cycle) answer = (answer.0, answer.1)

pub judged_in_turn : (m : RowList) (a : Judged) → IsInTurn m a → IsJudgedInTurn m a
judged_in_turn m (Yes tree) first = first
judged_in_turn m (No cycle) first = first

pub yes_within : {E : Type 0} (made : Result Judged E) (m : RowList) (s n : ℕ) → SolvesMatrixWithin m (made_status answer_status made) s n → IfOk made (IsYesWithin solver_costs m s n)
yes_within (Ok (Yes tree)) m s n solved = solved.yes refl
yes_within (Ok (No cycle)) m s n solved = tt
yes_within (Err e) m s n solved = tt
