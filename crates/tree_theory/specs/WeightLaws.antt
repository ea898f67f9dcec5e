-- What the weight of a tree says of the nodes that a row meets (Booth and Lueker, 1976).
use Rattle.std.specs.Prelude.{◌≡◌, ℕ, ◌+◌, ◌*◌, ◌≤◌, List, length}
use Rattle.pq_tree.specs.Outline.{Outline}
use Rattle.pq_tree.specs.Proper.{universal, IsTree}
use Rattle.pq_tree.specs.Equivalent.{IsEquivalent}
use Rattle.pq_tree.specs.Amortised.{nodes_met, nodes_met_below_root, weight}
use Rattle.tree_theory.specs.Reduced.{IsReduced}

-- where a row is taken, the nodes that it meets at the pertinent root and below it are no more than twice its columns, two,
-- and the weight that the tree loses
abbrev pub ReducedLaw : Type 0
ReducedLaw =
    (row : List ℕ) (t u : Outline) →
    IsTree t →
    IsReduced row t u →
    nodes_met_below_root row t + weight u ≤ 2 * (length row + 1) + weight t

-- the nodes that any row meets are no more than its columns and the weight of the tree
abbrev pub MetLaw : Type 0
MetLaw = (row : List ℕ) (t : Outline) → IsTree t → nodes_met row t ≤ length row + weight t

-- equivalent trees have the same weight
abbrev pub TurnedWeightLaw : Type 0
TurnedWeightLaw = (t u : Outline) → IsEquivalent t u → weight u ≡ weight t

-- the weight of the universal tree is no more than the number of its columns
abbrev pub UniversalWeightLaw : Type 0
UniversalWeightLaw = (c : ℕ) → weight (universal c) ≤ c

-- a row that is taken, while the count of steps goes from s to n
abbrev pub TakenStepsLaw : Type 0
TakenStepsLaw =
    (row : List ℕ) (t u : Outline) (s n : ℕ) →
    IsTree t →
    IsReduced row t u →
    n ≤ s + 4 * length row + 252 * (nodes_met_below_root row t + 1) →
    n + 256 * weight u ≤ s + 1024 * (1 + length row) + 256 * weight t

-- a row that is refused
abbrev pub RefusedStepsLaw : Type 0
RefusedStepsLaw =
    (row : List ℕ) (t : Outline) (s n : ℕ) →
    IsTree t →
    n ≤ s + 256 * (nodes_met row t + 1) →
    n ≤ s + 1024 * (1 + length row) + 256 * weight t
