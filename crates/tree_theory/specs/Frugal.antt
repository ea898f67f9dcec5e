-- What a row costs a reducer that is frugal: over all rows together, a constant for each column, row and one.
use Rattle.std.specs.Prelude.{ℕ, ◌+◌, ◌*◌, ◌≤◌, List, length}
use Rattle.pq_tree.specs.Outline.{Outline}
use Rattle.pq_tree.specs.Amortised.{weight}
use Rattle.tree_theory.specs.declared.reducer.Step.{Step}
use Rattle.tree_theory.specs.declared.reducer.Step.TheVariants.{Taken, Refused}

-- While a row makes u of the tree t, the count of steps goes from s to n. A row that is taken may cost 1024 steps for each of its
-- columns and 1024 more, and beyond that what it takes from the tree's weight, at 256 steps for each unit (the potential of Booth and
-- Lueker, 1976). A row that is refused may cost as much beyond as all weight of the tree is worth.
abbrev pub IsFrugal : List ℕ → Outline → Outline → ℕ → ℕ → Step → Type 0
IsFrugal row t u s n Taken = n + 256 * weight u ≤ s + 1024 * (1 + length row) + 256 * weight t
IsFrugal row t u s n Refused = n ≤ s + 1024 * (1 + length row) + 256 * weight t
