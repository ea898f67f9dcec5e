-- What judgements cost in steps. The count of steps goes from s to n.
use Rattle.std.specs.Prelude.{◌≡◌, ⊤, ℕ, ◌+◌, ◌*◌, ◌≤◌, Option, IfSome, length, sum_by}
use Rattle.row_model.specs.Rows.{RowList}
use Rattle.row_judge.specs.declared.Judged.{Judged}
use Rattle.row_judge.specs.declared.Judged.TheVariants.{Yes, No}

-- the most steps in which a matrix is judged that has a valid order, and any
pub record Costs : Type 0 where
  pub yes : RowList → ℕ
  pub any : RowList → ℕ

-- a yes comes within the steps of one
abbrev pub IsYesWithin : Costs → RowList → ℕ → ℕ → Judged → Type 0
IsYesWithin costs m s n (Yes t) = n ≤ s + costs.yes m
IsYesWithin costs m s n (No cycle) = ⊤

-- one matrix has the columns of another, and no more rows and ones
pub record IsNoLarger (part m : RowList) : Type 0 where
  pub columns : part.columns ≡ m.columns
  pub rows : length part.rows ≤ length m.rows
  pub ones : sum_by length part.rows ≤ sum_by length m.rows

-- no larger matrix costs more
abbrev pub AreMonotone : Costs → Type 0
AreMonotone costs = (part m : RowList) → IsNoLarger part m → costs.any part ≤ costs.any m

-- the steps are at most those of k judgements of matrices that are no larger than one, if the judge tells what it costs
abbrev pub AreJudgements : Option Costs → RowList → ℕ → ℕ → ℕ → Type 0
AreJudgements costs m k s n = IfSome costs (λ c. AreMonotone c → n ≤ s + k * c.any m)
