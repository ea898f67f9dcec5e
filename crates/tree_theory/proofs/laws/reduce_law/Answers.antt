use Rattle.tree_theory.proofs.Steps.{kept, decided, reduce_refused, exists}
use Rattle.tree_theory.proofs.laws.reduce_law.Goals as goal

pub returns : goal.returns
returns c = record { kept = kept; decided = decided; refused = reduce_refused; exists = exists }
