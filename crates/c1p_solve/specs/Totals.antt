-- What the steps of an answer come to.
use Rattle.std.specs.Prelude.{ℕ, ◌+◌, ◌-◌, ◌*◌, ◌≤◌, Option, Some, None, List, length, take, sum_by}
use Rattle.column_order.specs.Orders.{HasValidOrder}
use Rattle.row_model.specs.Rows.{RowList}
use Rattle.row_model.specs.declared.graph.Line.{Line}
use Rattle.pq_tree.specs.Outline.{Outline}
use Rattle.pq_tree.specs.Amortised.{weight}
use Rattle.row_judge.specs.declared.Judged.{Judged}
use Rattle.row_judge.specs.declared.Judged.TheVariants.{Yes, No}

-- the most steps in which a frugal reducer of c columns takes these rows in turn, or takes all but the last and refuses that
abbrev pub reduction_steps : ℕ → List (List ℕ) → ℕ
reduction_steps c rows = 1024 * (c + length rows + sum_by length rows)

-- the most steps of a search for an odd cycle of these rows over c columns
abbrev pub search_steps : ℕ → List (List ℕ) → ℕ
search_steps c rows = 8 * c * (sum_by length rows + 1)

-- the most steps of an answer on a matrix, whatever comes of it
abbrev pub answer_steps : RowList → ℕ
answer_steps m = reduction_steps m.columns m.rows + search_steps m.columns m.rows

-- All rows are taken, while the count of steps goes from s to n. What the weight of the tree t that is left is worth, at 256 steps for
-- each unit, is not spent.
abbrev pub IsYesTotal : RowList → Outline → ℕ → ℕ → Type 0
IsYesTotal m t s n = n + 256 * weight t ≤ s + reduction_steps m.columns m.rows

-- Row k is refused, the first one up to which the rows have no valid order, and an odd cycle is searched in the rows 1 to k.
pub record IsNoTotal (m : RowList) (s n : ℕ) : Type 0 where
  pub k : ℕ
  pub from : 1 ≤ k
  pub to : k ≤ length m.rows
  pub before : HasValidOrder m.columns (take (k - 1) m.rows)
  pub refused : HasValidOrder m.columns (take k m.rows) → ⊥
  pub total : n ≤ s + reduction_steps m.columns (take k m.rows) + search_steps m.columns (take k m.rows)

-- the total of an answer that leaves the tree t
abbrev pub IsTotal : RowList → Outline → ℕ → ℕ → Judged → Type 0
IsTotal m t s n (Yes _) = IsYesTotal m t s n
IsTotal m t s n (No _) = IsNoTotal m s n

-- the total of rows that are reduced in turn, with an odd cycle where one is refused
abbrev pub IsReductionTotal : RowList → Outline → ℕ → ℕ → Option (List Line) → Type 0
IsReductionTotal m t s n None = IsYesTotal m t s n
IsReductionTotal m t s n (Some _) = IsNoTotal m s n
