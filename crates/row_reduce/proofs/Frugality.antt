-- What a row costs, by the nodes that it meets, is what the reducer promises as a frugal one.
use Rattle.std.proofs.Common.{◌≡◌, ℕ, ◌+◌, ◌*◌, ◌≤◌, List, length, refl}
use Rattle.pq_tree.specs.Outline.{Outline}
use Rattle.pq_tree.specs.Proper.{IsTree}
use Rattle.pq_tree.specs.Amortised.{nodes_met, nodes_met_below_root}
use Rattle.tree_theory.specs.Reduced.{IsReduced}
use Rattle.tree_theory.specs.Frugal.{IsFrugal}
use Rattle.tree_theory.specs.declared.reducer.Step.{Step}
use Rattle.tree_theory.specs.declared.reducer.Step.TheVariants.{Taken, Refused}
use Rattle.tree_theory.specs.WeightLaws.{TakenStepsLaw, RefusedStepsLaw}

pub row_frugal : TakenStepsLaw → RefusedStepsLaw → (row : List ℕ) (t u : Outline) (s n : ℕ) (step : Step) → IsTree t → (step ≡ Taken → IsReduced row t u) → n ≤ s + 256 * (nodes_met row t + 1) →
    (step ≡ Taken → n ≤ s + 4 * length row + 252 * (nodes_met_below_root row t + 1)) → IsFrugal row t u s n step
row_frugal taken refused row t u s n Taken h r a b = taken row t u s n h (r refl) (b refl)
row_frugal taken refused row t u s n Refused h r a b = refused row t s n h a
