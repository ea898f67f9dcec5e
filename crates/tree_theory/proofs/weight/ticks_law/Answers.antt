use Rattle.tree_theory.proofs.Ticks.{taken_law, refused_law}
use Rattle.tree_theory.proofs.weight.ticks_law.Goals as goal

pub returns : goal.returns
returns c = record { taken = taken_law; refused = refused_law }
