-- What a row costs, with 256 steps for each unit of weight.
use Rattle.std.proofs.Common.{ℕ, ◌+◌, ◌*◌, ◌≤◌, List, length, arith}
use Rattle.pq_tree.specs.Outline.{Outline}
use Rattle.pq_tree.specs.Proper.{IsTree}
use Rattle.pq_tree.specs.Amortised.{nodes_met, nodes_met_below_root, weight}
use Rattle.tree_theory.specs.Reduced.{IsReduced}
use Rattle.tree_theory.proofs.WeightReduced.{reduced_law, met_law}

pub taken_law : (row : List ℕ) (t u : Outline) (s n : ℕ) → IsTree t → IsReduced row t u → n ≤ s + 4 * length row + 252 * (nodes_met_below_root row t + 1) →
    n + 256 * weight u ≤ s + 1024 * (1 + length row) + 256 * weight t
taken_law row t u s n h r k = let p : nodes_met_below_root row t + weight u ≤ 2 * (length row + 1) + weight t = reduced_law row t u h r in omega (arith, k, p)

pub refused_law : (row : List ℕ) (t : Outline) (s n : ℕ) → IsTree t → n ≤ s + 256 * (nodes_met row t + 1) → n ≤ s + 1024 * (1 + length row) + 256 * weight t
refused_law row t s n h k = let p : nodes_met row t ≤ length row + weight t = met_law row t h in omega (arith, k, p)
