-- What the steps of a session come to.
use Rattle.std.specs.Prelude.{⊤, ℕ, ◌+◌, ◌*◌, ◌≤◌, Bool, if◌then◌else◌, Some, None, List, length}
use Rattle.row_model.specs.Rows.{RowList}
use Rattle.pq_tree.specs.Outline.{Outline}
use Rattle.pq_tree.specs.Amortised.{nodes_met, weight}
use Rattle.c1p_solve.specs.Totals.{search_steps, IsYesTotal, IsNoTotal}
use Rattle.c1p_solve.specs.declared.session.Started.{Started}
use Rattle.c1p_solve.specs.declared.session.Started.TheVariants as started
use Rattle.c1p_solve.specs.declared.session.Taken.{Taken}
use Rattle.c1p_solve.specs.declared.session.Taken.TheVariants as taken

-- the start is an answer on its matrix
abbrev pub IsStartTotal : RowList → ℕ → ℕ → Started → Type 0
IsStartTotal m s n (started.Ok session) = IsYesTotal m session.tree s n
IsStartTotal m s n (started.No _) = IsNoTotal m s n

-- While the last row makes u of the tree t, the count of steps goes from s to n. A row that is taken is in the linear total. A row that
-- is refused is charged by itself, since the tree stays and the row may come again: 256 steps for each node that it meets, 256 more,
-- and a search where an odd cycle was asked for.
abbrev pub IsRowTotal : ℕ → List (List ℕ) → List ℕ → Outline → Outline → ℕ → ℕ → Taken → Type 0
IsRowTotal c rows row t u s n taken.Ok = n + 256 * weight u ≤ s + 1024 * (1 + length row) + 256 * weight t
IsRowTotal c rows row t u s n (taken.No None) = n ≤ s + 256 * (nodes_met row t + 1)
IsRowTotal c rows row t u s n (taken.No (Some _)) = n ≤ s + 256 * (nodes_met row t + 1) + search_steps c rows

-- The most steps of a further row, the last of these over c columns, that meets the tree t, whatever comes of it: 256 for each node that
-- it meets, 256 more, and a search where an odd cycle is asked for.
abbrev pub row_steps : ℕ → List (List ℕ) → List ℕ → Outline → Bool → ℕ
row_steps c rows row t explain = 256 * (nodes_met row t + 1) + (if explain then search_steps c rows else 0)

-- the most steps of a further row over c columns that is not taken, the last of these: 512 for each column, and a search where an odd cycle
-- is asked for
abbrev pub refusal_steps : ℕ → List (List ℕ) → Bool → ℕ
refusal_steps c rows explain = 512 * c + (if explain then search_steps c rows else 0)

-- a row that is refused takes no more
abbrev pub IsRefusedWithin : ℕ → List (List ℕ) → Bool → ℕ → ℕ → Taken → Type 0
IsRefusedWithin c rows explain s n taken.Ok = ⊤
IsRefusedWithin c rows explain s n (taken.No _) = n ≤ s + refusal_steps c rows explain
