-- What the steps of the replies come to. The count goes from s to n.
use Rattle.std.specs.Prelude.{◌≡◌, ℕ, zero, suc, ◌+◌, ◌*◌, ◌≤◌, List, length, Result, Ok, Err}
use Rattle.column_order.specs.Orders.{HasValidOrder}
use Rattle.row_model.specs.Rows.{RowList}
use Rattle.core_text.specs.Cores.{IsCore}
use Rattle.row_judge.specs.Costs.{Costs}
use Rattle.row_judge.specs.declared.Judged.{Judged}
use Rattle.row_judge.specs.declared.Judged.TheVariants.{Yes, No}
use Rattle.instance_model.specs.Instance.{InstanceValue, instance_columns, derived_matrix, IsSideOf}
use Rattle.verdict_text.specs.Value.{claim_of, verdict_value}
use Rattle.verdict_text.specs.declared.verdict.Part.{Part}
use Rattle.verdict_text.specs.declared.verdict.Verdict.{Verdict}
use Rattle.verdict_replies.specs.Verdicts.{HasOrder, status_of}
use Rattle.c1p_solve.specs.Totals.{reduction_steps, search_steps, answer_steps}

-- the most steps in which all rows of a matrix are taken: 1024 for each column, row and one
abbrev pub taking_steps : RowList → ℕ
taking_steps m = reduction_steps m.columns m.rows

-- the same of the derived matrices of the first k sides together
abbrev pub taking_steps_to : InstanceValue → ℕ → ℕ
taking_steps_to i zero = 0
taking_steps_to i (suc k) = taking_steps_to i k + taking_steps (derived_matrix i (suc k))

-- the same of all sides
abbrev pub sides_steps : InstanceValue → ℕ
sides_steps i = taking_steps_to i (length (instance_columns i))

-- what the solver tells of the steps of an answer: a yes comes within those in which all rows are taken
abbrev pub solver_costs : Costs
solver_costs = record { yes = taking_steps; any = answer_steps }

-- the most steps of a search for an odd cycle on a side: 8c(f + 1), with c columns and f ones in its derived matrix
abbrev pub side_search_steps : InstanceValue → ℕ → ℕ
side_search_steps i side = search_steps (derived_matrix i side).columns (derived_matrix i side).rows

-- the status of what was made, or 6 where memory was refused
abbrev pub made_status : {A E : Type 0} → (A → ℕ) → Result A E → ℕ
made_status status (Ok made) = status made
made_status status (Err e) = 6

-- the status that goes with an answer on a matrix: 0 for yes, 1 for no
abbrev pub answer_status : Judged → ℕ
answer_status (Yes _) = 0
answer_status (No _) = 1

-- the status that goes with what is found of an instance, and with a verdict
abbrev pub part_status : Part → ℕ
part_status part = status_of (claim_of part)

abbrev pub verdict_status : Verdict → ℕ
verdict_status verdict = status_of (verdict_value verdict).claim

-- A matrix was solved, with this status: with 0 within the steps in which all its rows are taken, and else within these and those of a
-- search. It has no valid order where the status is 1.
pub record SolvesMatrixWithin (m : RowList) (status s n : ℕ) : Type 0 where
  pub yes : status ≡ 0 → n ≤ s + taking_steps m
  pub no : status ≡ 1 → HasValidOrder m.columns m.rows → ⊥
  pub most : n ≤ s + answer_steps m

-- The sides of an instance were solved, with this status: with 0 within the steps in which all rows of all sides are taken, and else within
-- these and those of a search on one side, which has no valid order where the status is 1.
pub record SolvesWithin (i : InstanceValue) (status s n : ℕ) : Type 0 where
  pub yes : status ≡ 0 → n ≤ s + sides_steps i
  pub side : ℕ
  pub is_side : IsSideOf i side
  pub no : status ≡ 1 → HasOrder i side → ⊥
  pub most : n ≤ s + sides_steps i + side_search_steps i side

-- A core of a matrix was asked for, with this status. With 1 it has none, and was solved within the steps in which all its rows are taken.
-- With 0 some core is found within the steps of two answers for each of its rows, and one more. With any status the steps are at most those
-- of two answers for each row of the matrix, and one more.
pub record FindsCoreWithin (m : RowList) (status s n : ℕ) : Type 0 where
  pub none : status ≡ 1 → n ≤ s + taking_steps m
  pub core : status ≡ 0 → (core : List ℕ) × IsCore m core × (n ≤ s + (2 * length core + 1) * answer_steps m)
  pub most : n ≤ s + (2 * length m.rows + 1) * answer_steps m

-- The matrix of the rows of two trees was solved, with this status of `meet`: with 0 within the steps in which all its rows are taken, and
-- else within these and those of a search.
pub record MeetsWithin (m : RowList) (status s n : ℕ) : Type 0 where
  pub shared : status ≡ 0 → n ≤ s + taking_steps m
  pub most : n ≤ s + answer_steps m
