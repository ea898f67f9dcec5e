-- What the parts of the judge find.
use Rattle.std.specs.Prelude.{ℕ, ◌<◌, ◌≤◌, List, Option, Some, None}
use Rattle.std.specs.List.{AllByRecursion}
use Rattle.verdict_judge.specs.Accepted.{IsFirstFailing}

-- the least of 1 to n of which P does not hold; none where it holds of each
abbrev pub IsLeastFailing : (ℕ → Type 0) → ℕ → Option ℕ → Type 0
IsLeastFailing P n None = (k : ℕ) → 1 ≤ k → k ≤ n → P k
IsLeastFailing P n (Some k) = (1 ≤ k) × (k ≤ n) × (P k → ⊥) × ((j : ℕ) → 1 ≤ j → j < k → P j)

-- the first test that is not passed; none where each is passed
abbrev pub Finds : {R : Type 0} → (R → Type 0) → List R → Option R → Type 0
Finds P all None = AllByRecursion P all
Finds P all (Some r) = IsFirstFailing P all r
