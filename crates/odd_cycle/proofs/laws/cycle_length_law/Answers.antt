use Rattle.odd_cycle.proofs.CycleLength.{cycle_length}
use Rattle.odd_cycle.proofs.laws.cycle_length_law.Goals as goal

pub returns : goal.returns
returns c = cycle_length
