use Rattle.walk_search.proofs.OddCycles.{odd_cycle_law}
use Rattle.walk_search.proofs.laws.odd_cycle_law.Goals as goal

pub returns : goal.returns
returns c = odd_cycle_law
