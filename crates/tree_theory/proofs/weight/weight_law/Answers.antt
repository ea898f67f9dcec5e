use Rattle.tree_theory.proofs.WeightReduced.{reduced_law, met_law}
use Rattle.tree_theory.proofs.Weights.{equivalent_weight, universal_weight}
use Rattle.tree_theory.proofs.weight.weight_law.Goals as goal

pub returns : goal.returns
returns c = record { reduced = reduced_law; met = met_law; turned = equivalent_weight; universal = universal_weight }
