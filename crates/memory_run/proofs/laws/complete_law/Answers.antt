use Rattle.memory_run.proofs.Completing.{complete}
use Rattle.memory_run.proofs.laws.complete_law.Goals as goal

pub returns : goal.returns
returns c = complete
