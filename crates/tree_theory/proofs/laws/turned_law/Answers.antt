use Rattle.tree_theory.proofs.Turnable.{reduced_turned, root_turned, label_turned}
use Rattle.tree_theory.proofs.laws.turned_law.Goals as goal

pub returns : goal.returns
returns c = record { reduced = reduced_turned; root = root_turned; label = label_turned }
